-- The rows of a group, by its first VID.
use Rattle.std.proofs.Common.{◌≡◌, ℕ, ◌≤◌, List, [], ◌∷◌, length, get_or, arith}
use Rattle.mst_tables.specs.Tables.{Net}
use Rattle.mst_vlan.specs.forest.Outcome.{Outcome}
use Rattle.mst_text.specs.VlanRows.{heading}
use Rattle.mst_text.specs.VlanText.{body_rows}
use Rattle.mst_plan_text.specs.PlanText.{group_rows, runs_of_group, Islands}

pub by_first : (net : Net) (o : Outcome) (islands : ℕ → Islands) (group : List ℕ) (vid : ℕ) (runs : List (ℕ × ℕ)) → 1 ≤ length group → vid ≡ get_or group 0 vid → runs ≡ runs_of_group group
    → heading runs ∷ body_rows net o vid runs (islands vid) ≡ group_rows net o islands group
by_first net o islands [] vid runs any first is = absurd (omega arith)
by_first net o islands (v ∷ vs) vid runs any first is = λ i. heading (is i) ∷ body_rows net o (first i) (is i) (islands (first i))
