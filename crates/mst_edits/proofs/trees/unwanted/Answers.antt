use Rattle.std.proofs.Common.{◌≡◌, ℕ, ◌++◌, ◌∷◌, [], Bool, true, false, not, sym, ap, ◌∙◌, append-nil}
use Rattle.mst_net.specs.tables.Table.{has_tree}
use Rattle.mst_edits.proofs.Filtered.{or_false, one_kept}
use Rattle.mst_edits.proofs.trees.unwanted.Goals as goal
use Rattle.mst_edits.proofs.trees.unwanted.Goals.{then-not-has+in_ok-push, else-not-has}

pub loop-tree-preserved : goal.loop-tree-preserved
loop-tree-preserved c =
    let tree : ℕ = c.tree-item.result in
    let test : ℕ → Bool = λ t. not (has_tree c.args.after.now t) in
    let has : has_tree c.args.after.now tree ≡ c.has.result = sym (c.has.ensures.flag ∙ c.seen_in-wanted.ensures.seen tree c.has.ensures.small ∙ or_false (has_tree c.args.after.now tree)) in
    elim c.if-not-has.branch [
      | then-not-has+in_ok-push w ↦ rw w.others-is (w.in_ok-push.ensures.items ∙ ap (λ xs. xs ++ tree ∷ []) c.loop-tree.invariant
          ∙ sym (one_kept test c.as_slice-tree-items.result.now c.loop-tree.tree-index tree true c.loop-tree-test.true c.tree-item.is (ap not (has ∙ w.if-not-has.true))))
      | else-not-has w ↦ rw w.others-is (c.loop-tree.invariant
          ∙ sym (one_kept test c.as_slice-tree-items.result.now c.loop-tree.tree-index tree false c.loop-tree-test.true c.tree-item.is (ap not (has ∙ w.if-not-has.false)) ∙ append-nil _))
    ]
