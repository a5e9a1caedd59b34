use Rattle.std.proofs.Common.{◌≡◌, ℕ, ◌+◌, ◌++◌, ◌∷◌, [], true, false, get_or, sym, ◌∙◌, ap, arith, rules}
use Rattle.std.proofs.lemmas.Grind.{common_steps}
use Rattle.mst_net.proofs.tables_lemmas.Rising.{one_passes, one_fails}
use Rattle.mst_forest.specs.InUse.{is_in_use}
use Rattle.mst_forest.proofs.InUse.{all_seen}
use Rattle.mst_forest.proofs.in_use.mstis_in_use.Goals as goal
use Rattle.mst_forest.proofs.in_use.mstis_in_use.Goals.{then-used-from+in_ok-push, else-used-from}

pub loop-index-preserved : goal.loop-index-preserved
loop-index-preserved c =
    let index : ℕ = c.loop-index.index in
    let v = c.args.view.now in
    let seen : get_or c.trees_in_use-used.result (index + 1) false ≡ is_in_use v (index + 1) = c.trees_in_use-used.ensures.used (index + 1) (omega arith) in
    elim c.if-used-from.branch [
      | then-used-from+in_ok-push w ↦
          let is : w.unwrap.result ≡ index + 1 = first_of (grind (arith, common_steps), search (rules, common_steps)) in
          let flag : get_or c.trees_in_use-used.result (index + 1) false ≡ true = ap (λ n. get_or c.trees_in_use-used.result n false) (sym c.from.ensures) ∙ w.if-used-from.true in
          rw w.trees-is (w.in_ok-push.ensures.items ∙ ap (λ xs. xs ++ w.unwrap.result ∷ []) c.loop-index.invariant
          ∙ sym (one_passes (is_in_use v) index w.unwrap.result is (ap (is_in_use v) is ∙ sym seen ∙ flag)))
      | else-used-from w ↦
          let flag : get_or c.trees_in_use-used.result (index + 1) false ≡ false = ap (λ n. get_or c.trees_in_use-used.result n false) (sym c.from.ensures) ∙ w.if-used-from.false in
          rw w.trees-is (c.loop-index.invariant ∙ sym (one_fails (is_in_use v) index (index + 1) (omega arith) (sym seen ∙ flag)))
    ]

pub returns : goal.returns
returns c = let last : c.loop-index.index ≡ 4094 = omega arith in c.loop-index.invariant ∙ all_seen c.args.view.now c.loop-index.index last
