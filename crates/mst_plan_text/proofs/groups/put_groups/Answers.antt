use Rattle.std.proofs.Common.{Vec, Global, ℕ, List, ◌++◌, subst, take}
use Rattle.std.specs.List.{flat_map}
use Rattle.mst_rows.proofs.Loops.{rows_all, rows_more}
use Rattle.mst_rows.specs.Rows.{Row}
use Rattle.mst_vlan.specs.forest.Settled.{outcome_of}
use Rattle.mst_plan_text.specs.PlanText.{group_rows}
use Rattle.mst_plan_text.proofs.groups.put_groups.Goals as goal

pub loop-group-preserved : goal.loop-group-preserved
loop-group-preserved g c islands are first before grew =
    let s = c.args.plan.now in
    let f : Vec ℕ Global → List Row = λ group. group_rows s.net (outcome_of s) islands group.items in
    let item = c.group-item.result in
    rows_more (g.R.Rows.grew first c.put_group.new.out) f c.args.groups.now c.loop-group.group-index item before c.loop-group-test.true c.group-item.is
    (subst (λ (group : List ℕ). g.R.Rows.grew first c.put_group.new.out ((before ++ flat_map f (take c.loop-group.group-index c.args.groups.now)) ++ group_rows s.net (outcome_of s) islands group)) c.as_slice.ensures.value
    (c.in_ok-put_group.ensures islands are first _ (c.loop-group.invariant islands are first before grew)))

pub returns : goal.returns
returns g c islands are first before grew =
    let s = c.args.plan.now in
    let f : Vec ℕ Global → List Row = λ group. group_rows s.net (outcome_of s) islands group.items in
    rows_all (g.R.Rows.grew first c.loop-group.out) f c.args.groups.now c.loop-group.group-index before c.loop-group-test.false (c.loop-group.invariant islands are first before grew)
