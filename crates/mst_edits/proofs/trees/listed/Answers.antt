use Rattle.std.proofs.Common.{◌≡◌, ℕ, ◌+◌, ◌-◌, ◌++◌, ◌∷◌, [], true, false, get_or, sym, ◌∙◌, ap, arith, rules}
use Rattle.std.specs.List.{filter, range_with_len}
use Rattle.std.proofs.lemmas.Grind.{common_steps}
use Rattle.mst_edits.proofs.Filtered.{one_passes, one_fails}
use Rattle.mst_edits.proofs.trees.listed.Goals as goal
use Rattle.mst_edits.proofs.trees.listed.Goals.{then-seen-from+in_ok-push, else-seen-from}

pub loop-number-init : goal.loop-number-init
loop-number-init c test flags = let none : c.args.from - c.args.from ≡ 0 = omega arith in c.new-trees.ensures.items ∙ ap (λ n. filter test (range_with_len c.args.from n)) (sym none)

pub loop-number-preserved : goal.loop-number-preserved
loop-number-preserved c test flags =
    let number : ℕ = c.loop-number.number in
    let from : ℕ = c.args.from in
    elim c.if-seen-from.branch [
      | then-seen-from+in_ok-push w ↦
          let is : w.unwrap.result ≡ number = first_of (grind (arith, common_steps), search (rules, common_steps)) in
          let flag : test number ≡ true = sym (flags number (omega arith)) ∙ ap (λ n. get_or c.args.seen.now n false) (sym c.from.ensures) ∙ w.if-seen-from.true in
          rw w.trees-is (w.in_ok-push.ensures.items ∙ ap (λ xs. xs ++ w.unwrap.result ∷ []) (c.loop-number.invariant test flags)
          ∙ sym (one_passes test from (number - from) (number + 1 - from) w.unwrap.result (omega (arith, is)) (omega arith) (ap test is ∙ flag)))
      | else-seen-from w ↦
          let flag : test number ≡ false = sym (flags number (omega arith)) ∙ ap (λ n. get_or c.args.seen.now n false) (sym c.from.ensures) ∙ w.if-seen-from.false in
          rw w.trees-is (c.loop-number.invariant test flags ∙ sym (one_fails test from (number - from) (number + 1 - from) number (omega arith) (omega arith) flag))
    ]
