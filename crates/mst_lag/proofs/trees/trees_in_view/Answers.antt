use Rattle.std.proofs.Common.{◌≡◌, ℕ, List, subst, sym}
use Rattle.std.specs.List.Sorted.{IsNonDecreasingBy}
use Rattle.mst_tables.specs.Seen.{bridge_row}
use Rattle.mst_view.proofs.Rising.{mstis_rise}
use Rattle.mst_lag.proofs.trees.trees_in_view.Goals as goal

pub new-requires : goal.new-requires
new-requires g c =
    subst (λ (ts : List ℕ). IsNonDecreasingBy (λ t. t) ts) (sym c.in_ok-trees.ensures)
    (mstis_rise (g.C.Contents.tables c.args.contents.now).net c.bridge-item.result.name (bridge_row c.bridge-item.result.bridge))
