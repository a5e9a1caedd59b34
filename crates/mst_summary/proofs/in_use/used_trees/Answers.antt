use Rattle.std.proofs.Common.{◌≡◌, ℕ, Bool, true, false, cond, [], ◌∷◌, ◌++◌, sym, ap, ◌∙◌, arith, append-nil}
use Rattle.std.specs.List.{filter, range_with_len}
use Rattle.mst_summary.specs.Seen.{seen_used}
use Rattle.mst_summary.proofs.Lists.{trees_more, trees_all}
use Rattle.mst_summary.proofs.in_use.used_trees.Goals as goal
use Rattle.mst_summary.proofs.in_use.used_trees.Goals.{in-Some+then-is_used+in_ok-push, in-Some+else-is_used, in_default}

pub loop-number-preserved : goal.loop-number-preserved
loop-number-preserved c =
    let l = c.loop-number in
    let test : ℕ → Bool = seen_used c.args.view.now in
    let first = filter test (range_with_len 0 l.number) in
    elim c.match-new.branch [
      | in-Some+then-is_used+in_ok-push w ↦
          let same : w.in-Some.tree ≡ l.number = (w.in-Some.ensures {u = tt}).1 in
          let passes : test l.number ≡ true = ap test (sym same) ∙ sym w.is_used.ensures ∙ w.if-is_used.true in
          ap (λ r. r.items) w.trees-is ∙ w.in_ok-push.ensures.items ∙ (λ i. l.invariant i ++ same i ∷ []) ∙ sym (trees_more test l.number ∙ ap (λ b. first ++ cond b (l.number ∷ []) []) passes)
      | in-Some+else-is_used w ↦
          let same : w.in-Some.tree ≡ l.number = (w.in-Some.ensures {u = tt}).1 in
          let fails : test l.number ≡ false = ap test (sym same) ∙ sym w.is_used.ensures ∙ w.if-is_used.false in
          ap (λ r. r.items) w.trees-is ∙ l.invariant ∙ sym (trees_more test l.number ∙ ap (λ b. first ++ cond b (l.number ∷ []) []) fails ∙ append-nil first)
      | in_default w ↦
          let below = c.loop-number-test.true in
          absurd (w.in_default.ensures {u = tt} (omega arith))
    ]

pub returns : goal.returns
returns c = c.loop-number.invariant ∙ trees_all (seen_used c.args.view.now) c.loop-number.number (omega arith)
