use Rattle.std.proofs.Common.{◌≡◌, ◌+◌, List, ◌++◌, refl, sym, ap, subst, ◌∙◌, arith, append-nil}
use Rattle.std.specs.List.{flat_map, range_with_len}
use Rattle.mst_view.specs.Viewed.{Viewed}
use Rattle.mst_roles.specs.forest.InUse.{AreInUse}
use Rattle.mst_roles.specs.forest.Settled.{outcome_of}
use Rattle.mst_rows.specs.Rows.{Row}
use Rattle.mst_changes.specs.TreeChanges.{tree_changes}
use Rattle.mst_changes.specs.contracts.changes.put_changes.{R-type}
use Rattle.mst_changes.proofs.Gathered.{more_after, trees_done}
use Rattle.mst_changes.proofs.InTrees.{tree_by_tree}
use Rattle.mst_changes.proofs.changes.put_changes.Goals as goal
use Rattle.mst_changes.proofs.changes.put_changes.Goals.{in-Some+in_ok-put_tree_changes, in_default}

pub put_tree_changes-requires-clause-used : goal.put_tree_changes-requires-clause-used
put_tree_changes-requires-clause-used g c = subst (λ (v : Viewed). AreInUse v c.trees_in_use-used.result) c.view.ensures c.trees_in_use-used.ensures

pub loop-number-init : goal.loop-number-init
loop-number-init g c a o olds first rows grew = subst (g.R.Rows.grew first c.args.out.now) (sym (append-nil rows)) grew

pub loop-number-preserved : goal.loop-number-preserved
loop-number-preserved g c a o olds first rows grew =
    let s = c.args.new.now in
    let l = c.loop-number in
    let tree = tree_changes a o s.net (outcome_of s) in
    let so_far : List Row = rows ++ flat_map tree (range_with_len 0 l.number) in
    elim c.match-new.branch [
      | in-Some+in_ok-put_tree_changes w ↦
          let same : w.in-Some.tree ≡ l.number = (w.in-Some.ensures {u = tt}).1 in
          subst (λ (out : R-type g.row.R). g.R.Rows.grew first out (rows ++ flat_map tree (range_with_len 0 (l.number + 1)))) (sym w.out-is)
          (subst (g.R.Rows.grew first w.put_tree_changes.new.out) (more_after tree l.number rows so_far (so_far ++ tree w.in-Some.tree) refl (ap (λ t. so_far ++ tree t) same))
          (w.in_ok-put_tree_changes.ensures a o olds first so_far (l.invariant a o olds first rows grew)))
      | in_default w ↦
          let below = c.loop-number-test.true in
          absurd (w.in_default.ensures {u = tt} (omega arith))
    ]

pub returns : goal.returns
returns g c a o olds first rows grew =
    let s = c.args.new.now in
    let l = c.loop-number in
    subst (λ (all : List Row). g.R.Rows.grew first l.out (rows ++ all)) (trees_done (tree_changes a o s.net (outcome_of s)) l.number (omega arith) ∙ sym (tree_by_tree a s.net o (outcome_of s)))
    (l.invariant a o olds first rows grew)
