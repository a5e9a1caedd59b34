use Rattle.std.proofs.Common.{ap, sym, ◌∙◌}
use Rattle.std.specs.FinMap as fin
use Rattle.mst_tables.proofs.Keyed.{get_keyed}
use Rattle.mst_tables.proofs.Keys.{names}
use Rattle.mst_net.proofs.network.Network.next_bridge.Goals as goal

pub returns-clause-fresh : goal.returns-clause-fresh
returns-clause-fresh c name at =
    c.next.ensures.fresh name (sym (get_keyed names c.self.inside.bridges.numbers name) ∙ ap (λ n. fin.get n.numbers.bridges name) c.self.view_is ∙ at)
