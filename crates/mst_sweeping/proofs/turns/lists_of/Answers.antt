use Rattle.std.proofs.Common.{map, take, ap, ◌∙◌}
use Rattle.std.proofs.lemmas.List.{take_all}
use Rattle.mst_graph.specs.Lists.{with_new}
use Rattle.mst_sweeping.specs.Seen.{turning_of}
use Rattle.mst_sweeping.specs.Turns.{lists_of, same_bridges}
use Rattle.mst_sweeping.proofs.TurnLists.{lists_more}
use Rattle.mst_sweeping.proofs.turns.lists_of.Goals as goal

pub loop-in_tree-preserved : goal.loop-in_tree-preserved
loop-in_tree-preserved c =
    let l = c.loop-in_tree in
    c.in_ok-add_new.ensures ∙ ap (λ kept. with_new same_bridges kept c.as_slice.result.now) l.invariant
    ∙ ap (λ bridges. with_new same_bridges (lists_of (map turning_of (take l.in_tree-index c.args.turning.now))) bridges) c.as_slice.ensures.value
    ∙ lists_more c.args.turning.now l.in_tree-index c.in_tree-item.result c.loop-in_tree-test.true c.in_tree-item.is

pub returns : goal.returns
returns c = c.loop-in_tree.invariant ∙ ap (λ ts. lists_of (map turning_of ts)) (take_all c.loop-in_tree.in_tree-index c.args.turning.now c.loop-in_tree-test.false)
