use Rattle.std.proofs.Common.{Vec, Global, ℕ, List, ◌++◌, map, subst, take}
use Rattle.std.specs.List.{flat_map}
use Rattle.mst_rows.proofs.Loops.{rows_all, rows_more}
use Rattle.mst_rows.specs.Rows.{Row}
use Rattle.mst_diff.specs.Reach.{group_rows}
use Rattle.mst_diff.specs.Seen.{seen_sides, sides_at}
use Rattle.mst_diff.proofs.reach.put_groups.Goals as goal

pub loop-group-preserved : goal.loop-group-preserved
loop-group-preserved g c first rows grew =
    let f : Vec ℕ Global → List Row = λ group. group_rows (sides_at c.args.numbers.now (map seen_sides c.args.sides.now)) group.items in
    let item = c.group-item.result in
    rows_more (g.R.Rows.grew first c.put_group.new.out) f c.args.groups.now c.loop-group.group-index item rows c.loop-group-test.true c.group-item.is
    (subst (λ (group : List ℕ). g.R.Rows.grew first c.put_group.new.out ((rows ++ flat_map f (take c.loop-group.group-index c.args.groups.now)) ++ group_rows (sides_at c.args.numbers.now (map seen_sides c.args.sides.now)) group)) c.as_slice.ensures.value
    (c.in_ok-put_group.ensures first _ (c.loop-group.invariant first rows grew)))

pub returns : goal.returns
returns g c first rows grew =
    let f : Vec ℕ Global → List Row = λ group. group_rows (sides_at c.args.numbers.now (map seen_sides c.args.sides.now)) group.items in
    rows_all (g.R.Rows.grew first c.loop-group.out) f c.args.groups.now c.loop-group.group-index rows c.loop-group-test.false (c.loop-group.invariant first rows grew)
