use Rattle.std.proofs.Common.{ap, sym, ◌∙◌}
use Rattle.std.specs.FinMap as fin
use Rattle.mst_tables.proofs.Keyed.{len_keyed}
use Rattle.mst_tables.proofs.Keys.{ports}
use Rattle.mst_net.proofs.network.Network.port_count.Goals as goal

pub returns : goal.returns
returns c = c.len.ensures.len ∙ sym (len_keyed ports c.self.inside.ports.rows c.len.ensures.distinct) ∙ ap (λ n. fin.len n.net.ports) c.self.view_is
