use Rattle.std.proofs.Common.{ℕ, List, ◌++◌, take}
use Rattle.std.specs.List.{flat_map}
use Rattle.mst_rows.specs.Rows.{Row}
use Rattle.mst_vlan.specs.forest.Settled.{outcome_of}
use Rattle.mst_plan_text.specs.PlanText.{group_rows, AreIslandsOfEach, Islands}
use Rattle.mst_plan_text.specs.contracts.groups.put_groups.{R-type}
use Rattle.mst_plan_text.proofs.groups.put_groups.Given as goal

-- the rows of the groups so far
abbrev pub invariant-loop-group : goal.invariant-loop-group
invariant-loop-group g l = (islands : ℕ → Islands) → AreIslandsOfEach l.plan.net (outcome_of l.plan) islands → (first : R-type g.row.R) (before : List Row) → g.R.Rows.grew first l.fn.out before
    → g.R.Rows.grew first l.out (before ++ flat_map (λ group. group_rows l.plan.net (outcome_of l.plan) islands group.items) (take l.group-index l.groups))
