-- That there was no captured message, by what was counted.
use Rattle.std.proofs.Common.{◌≡◌, ℕ, ◌+◌, true, true≢false, cond, nat_eq, ◌&&◌, List, [], ◌∷◌, inl, inr, sym, ap, ◌∙◌, add-zero}
use Rattle.std.proofs.lemmas.Bool.{and_parts, cases_Bool, eqb-true}
use Rattle.mst_engine.specs.Captures.{Compares}
use Rattle.mst_engine.specs.Engine.{Tally}
use Rattle.mst_engine.specs.Steps.{Step, answers_of, differing_of, lacks_of, refusals_of}
use Rattle.mst_engine.specs.report.State.{State}
use Rattle.mst_engine.proofs.Uncounted.{AreUncounted, all_skipped, none_counted}
use Rattle.mst_engine.specs.print.Shape.{listed}
use Rattle.mst_engine.specs.print.declared.form.Form.{Form}
use Rattle.mst_tool.specs.Check.{are_skipped, counted_captures, idle_text, is_idle, none_refused, none_row, none_text}

module _ (form : Form) (number : ℕ) (now : State) (lines : List (List ℕ)) (steps : List Step) (u : Tally) (compares : Compares form number now lines steps)
    (refused : u.refused ≡ refusals_of steps) (memory : u.memory ≡ lacks_of steps) (differing : u.differing ≡ differing_of steps) (answered : u.answered ≡ answers_of steps) where
  uncounted : is_idle u ≡ true → AreUncounted steps
  uncounted idle =
      let a = and_parts (nat_eq u.refused 0 && nat_eq u.memory 0 && nat_eq u.differing 0) (nat_eq u.answered 0) idle in
      let d = and_parts (nat_eq u.refused 0 && nat_eq u.memory 0) (nat_eq u.differing 0) a.0 in
      let m = and_parts (nat_eq u.refused 0) (nat_eq u.memory 0) d.0 in
      record {
        refused = sym refused ∙ eqb-true u.refused 0 m.0;
        lacking = sym memory ∙ eqb-true u.memory 0 m.1;
        differs = sym differing ∙ eqb-true u.differing 0 d.1;
        answers = sym answered ∙ eqb-true u.answered 0 a.1;
      }

  idle_is : is_idle u ≡ are_skipped lines
  idle_is = elim (cases_Bool (are_skipped lines)) [
    | inl skipped ↦
        let none = all_skipped form number now lines steps compares skipped in
        let r : u.refused ≡ 0 = refused ∙ none.refused in
        let m : u.memory ≡ 0 = memory ∙ none.lacking in
        let d : u.differing ≡ 0 = differing ∙ none.differs in
        let a : u.answered ≡ 0 = answered ∙ none.answers in
        (λ i. nat_eq (r i) 0 && nat_eq (m i) 0 && nat_eq (d i) 0 && nat_eq (a i) 0) ∙ sym skipped
    | inr some ↦ elim (cases_Bool (is_idle u)) [
      | inl idle ↦ absurd (true≢false (sym (none_counted form number now lines steps compares (uncounted idle)) ∙ some))
      | inr busy ↦ busy ∙ sym some
    ]
  ]

  pub idle_said : idle_text form u ≡ none_text form lines
  idle_said = ap (λ b. cond b (listed form (none_row ∷ [])) []) idle_is

  pub idle_counted : (counted_captures u).refused ≡ refusals_of steps + none_refused lines
  idle_counted = elim (cases_Bool (are_skipped lines)) [
    | inl skipped ↦
        let none = all_skipped form number now lines steps compares skipped in
        ap (λ b. cond b 1 u.refused) (idle_is ∙ skipped) ∙ sym (λ i. none.refused i + cond (skipped i) 1 0)
    | inr some ↦ ap (λ b. cond b 1 u.refused) (idle_is ∙ some) ∙ refused ∙ sym (ap (λ b. refusals_of steps + cond b 1 0) some ∙ add-zero (refusals_of steps))
  ]
