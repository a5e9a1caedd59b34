use Rattle.std.proofs.Common.{◌++◌, sym, ap, ◌∙◌}
use Rattle.mst_diff.specs.Seen.{one_group}
use Rattle.mst_diff.proofs.NamedSides.{groups_more}
use Rattle.mst_diff.proofs.sides.groups.Goals as goal

pub loop-island-preserved : goal.loop-island-preserved
loop-island-preserved c =
    let l = c.loop-island in
    let v = c.args.view.now in
    let island = c.island-item.result in
    c.in_ok-add_island.ensures {u = tt} ∙ ap (λ groups. groups ++ one_group v island) l.invariant ∙ sym (groups_more v c.args.islands.now l.island-index island c.loop-island-test.true c.island-item.is)
