use Rattle.std.proofs.Common.{ap, sym, ◌∙◌}
use Rattle.std.specs.FinMap as fin
use Rattle.mst_tables.proofs.Keyed.{contains_keyed}
use Rattle.mst_tables.proofs.Keys.{names}
use Rattle.mst_net.proofs.network.Network.has_bridge.Goals as goal

pub returns : goal.returns
returns c = c.contains.ensures ∙ sym (contains_keyed names c.self.inside.bridges.rows c.args.name.now) ∙ ap (λ n. fin.contains_key n.net.bridges c.args.name.now) c.self.view_is
