use Rattle.std.proofs.Common.{◌≡◌, ℕ, ◌+◌, ◌++◌, ◌∷◌, [], true, false, get_or, sym, ◌∙◌, ap, arith, rules}
use Rattle.std.proofs.lemmas.Grind.{common_steps}
use Rattle.mst_tables.specs.Table.{has_tree}
use Rattle.mst_tables.proofs.Rising.{one_passes, one_fails, all_mstis}
use Rattle.mst_tables.proofs.table.Table.mstis.Goals as goal
use Rattle.mst_tables.proofs.table.Table.mstis.Goals.{then-seen-from+in_ok-push, else-seen-from}

pub loop-index-preserved : goal.loop-index-preserved
loop-index-preserved c =
    let index : ℕ = c.loop-index.index in
    let table = c.args.self.now in
    let seen : get_or c.trees_seen-seen.result (index + 1) false ≡ has_tree table (index + 1) = c.trees_seen-seen.ensures.seen (index + 1) (omega arith) in
    elim c.if-seen-from.branch [
      | then-seen-from+in_ok-push w ↦
          let is : w.unwrap.result ≡ index + 1 = first_of (grind (arith, common_steps), search (rules, common_steps)) in
          let flag : get_or c.trees_seen-seen.result (index + 1) false ≡ true = ap (λ n. get_or c.trees_seen-seen.result n false) (sym c.from.ensures) ∙ w.if-seen-from.true in
          rw w.trees-is (w.in_ok-push.ensures.items ∙ ap (λ xs. xs ++ w.unwrap.result ∷ []) c.loop-index.invariant
          ∙ sym (one_passes (has_tree table) index w.unwrap.result is (ap (has_tree table) is ∙ sym seen ∙ flag)))
      | else-seen-from w ↦
          let flag : get_or c.trees_seen-seen.result (index + 1) false ≡ false = ap (λ n. get_or c.trees_seen-seen.result n false) (sym c.from.ensures) ∙ w.if-seen-from.false in
          rw w.trees-is (c.loop-index.invariant ∙ sym (one_fails (has_tree table) index (index + 1) (omega arith) (sym seen ∙ flag)))
    ]

pub returns : goal.returns
returns c = let last : c.loop-index.index ≡ 4094 = omega arith in c.loop-index.invariant ∙ all_mstis c.args.self.now c.loop-index.index last
