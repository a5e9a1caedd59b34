use Rattle.std.proofs.Common.{ap, sym, ◌∙◌}
use Rattle.std.specs.FinMap as fin
use Rattle.mst_tables.proofs.Keyed.{len_keyed}
use Rattle.mst_tables.proofs.Keys.{names}
use Rattle.mst_net.proofs.network.Network.lan_count.Goals as goal

pub returns : goal.returns
returns c = c.len.ensures.len ∙ sym (len_keyed names c.self.inside.lans.rows c.len.ensures.distinct) ∙ ap (λ n. fin.len n.net.lans) c.self.view_is
