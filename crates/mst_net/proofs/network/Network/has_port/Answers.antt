use Rattle.std.proofs.Common.{ap, sym, ◌∙◌}
use Rattle.std.specs.FinMap as fin
use Rattle.mst_tables.proofs.Keyed.{contains_keyed}
use Rattle.mst_tables.proofs.Keys.{ports}
use Rattle.mst_net.proofs.network.Network.has_port.Goals as goal

pub returns : goal.returns
returns c = c.contains.ensures ∙ sym (contains_keyed ports c.self.inside.ports.rows c.args.port.now) ∙ ap (λ n. fin.contains_key n.net.ports c.args.port.now) c.self.view_is
