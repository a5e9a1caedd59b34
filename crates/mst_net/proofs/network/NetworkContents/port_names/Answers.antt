use Rattle.std.proofs.Common.{ap, ◌∙◌, subst}
use Rattle.std.specs.FinMap as fin
use Rattle.std.specs.List.Sorted.{IsPermutation}
use Rattle.mst_tables.proofs.Keys.{ports}
use Rattle.mst_tables.proofs.NamesInOrder.{names_in_order}
use Rattle.mst_net.proofs.network.NetworkContents.port_names.Goals as goal

pub returns : goal.returns
returns c =
    names_in_order ports c.self.inside.ports.rows c.sort.new.self.items c.keys.ensures.distinct
    (subst (λ l. IsPermutation l c.sort.new.self.items) c.in_ok-names.ensures.keys c.sort.ensures.permutation) c.in_ok-sort.ensures.sorted
    ∙ ap (λ n. fin.keys n.net.ports) c.self.view_is
