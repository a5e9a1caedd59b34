use Rattle.std.proofs.Common.{Vec, Global, ℕ, List, [], ◌∷◌, ◌++◌, map, take}
use Rattle.std.specs.List.{flat_map}
use Rattle.mst_rows.specs.Rows.{Row}
use Rattle.mst_sweeping.specs.Seen.{turning_of}
use Rattle.mst_sweeping.specs.StepText.{turn_row}
use Rattle.mst_sweeping.specs.Turns.{trees_with}
use Rattle.mst_sweeping.proofs.step.put_turn_rows.Given as goal

-- the rows of the lists so far
abbrev pub invariant-loop-bridges : goal.invariant-loop-bridges
invariant-loop-bridges g l = (first : _) (rows : List Row) → g.R.Rows.grew first l.fn.out rows
    → g.R.Rows.grew first l.out (rows ++ flat_map (λ (bridges : Vec (List ℕ) Global). turn_row l.step (trees_with (map turning_of l.turning) bridges.items) bridges.items ∷ []) (take l.bridges-index l.bridges-items))
