use Rattle.std.proofs.Common.{◌≡◌, ℕ, Bool, true, false, cond, [], ◌∷◌, ◌++◌, sym, ap, ◌∙◌, arith, append-nil}
use Rattle.std.specs.List.{filter, list_any, range_with_len}
use Rattle.mst_view.specs.View.{bridge_names}
use Rattle.mst_sweep.specs.Moved.{root_moved}
use Rattle.mst_sweep.proofs.Moved.{trees_more, trees_all}
use Rattle.mst_sweep.proofs.roots.moved_roots.Goals as goal
use Rattle.mst_sweep.proofs.roots.moved_roots.Goals.{in-Some+then-tree_moved+in_ok-push, in-Some+else-tree_moved, in_default}

pub loop-number-preserved : goal.loop-number-preserved
loop-number-preserved c = λ a b n k is are of so.
    let l = c.loop-number in
    let test : ℕ → Bool = λ tree. list_any (root_moved a is.outcome b are.outcome tree) (bridge_names a) in
    let first = filter test (range_with_len 0 l.number) in
    let before = l.invariant a b n k is are of so in
    elim c.match-new.branch [
      | in-Some+then-tree_moved+in_ok-push w ↦
          let same : w.in-Some.tree ≡ l.number = (w.in-Some.ensures {u = tt}).1 in
          let passes : test l.number ≡ true = ap test (sym same) ∙ sym (w.tree_moved.ensures a b n k is are of so) ∙ w.if-tree_moved.true in
          ap (λ r. r.items) w.trees-is ∙ w.in_ok-push.ensures.items ∙ (λ i. before i ++ same i ∷ []) ∙ sym (trees_more test l.number ∙ ap (λ b. first ++ cond b (l.number ∷ []) []) passes)
      | in-Some+else-tree_moved w ↦
          let same : w.in-Some.tree ≡ l.number = (w.in-Some.ensures {u = tt}).1 in
          let fails : test l.number ≡ false = ap test (sym same) ∙ sym (w.tree_moved.ensures a b n k is are of so) ∙ w.if-tree_moved.false in
          ap (λ r. r.items) w.trees-is ∙ before ∙ sym (trees_more test l.number ∙ ap (λ b. first ++ cond b (l.number ∷ []) []) fails ∙ append-nil first)
      | in_default w ↦
          let below = c.loop-number-test.true in
          absurd (w.in_default.ensures {u = tt} (omega arith))
    ]

pub returns : goal.returns
returns c a b n k is are of so =
    c.loop-number.invariant a b n k is are of so ∙ trees_all (λ tree. list_any (root_moved a is.outcome b are.outcome tree) (bridge_names a)) c.loop-number.number (omega arith)
