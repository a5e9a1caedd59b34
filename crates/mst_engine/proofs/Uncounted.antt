-- That nothing is counted of captures just where none of their lines is a message.
use Rattle.std.proofs.Common.{◌≡◌, ℕ, ◌+◌, Bool, true, false, true≢false, cond, ◌&&◌, List, [], ◌∷◌, Option, Some, None, Result, Ok, Err, refl, sym, ap, subst, ◌∙◌, arith}
use Rattle.std.specs.List.{list_all}
use Rattle.std.proofs.lemmas.Bool.{and_parts}
use Rattle.std.proofs.lemmas.List.Sums.{sum_by-cons}
use Rattle.mst_ids.specs.declared.name.PortName.{PortName}
use Rattle.mst_bpdu.specs.Reading.{reading}
use Rattle.mst_bpdu.specs.declared.bpdu.Bpdu.{Bpdu}
use Rattle.mst_bpdu.specs.declared.difference.Difference.{Difference}
use Rattle.mst_bpdu.specs.declared.fault.BpduFault.{BpduFault}
use Rattle.mst_compare.specs.Sender.{sender_of}
use Rattle.mst_report.specs.State.{State}
use Rattle.mst_engine.specs.Captures.{Compares, ServesMessage, ServesSent, capture_of, compared, is_skipped}
use Rattle.mst_engine.specs.Steps.{Step, RunsBy, answers_of, differing_of, lacks_of, refusals_of, silent}
use Rattle.mst_print.specs.declared.form.Form.{Form}

-- nothing is counted of these steps
pub record AreUncounted (steps : List Step) : Type 0 where
  pub refused : refusals_of steps ≡ 0
  pub lacking : lacks_of steps ≡ 0
  pub differs : differing_of steps ≡ 0
  pub answers : answers_of steps ≡ 0

no_more : (b : Bool) (n : ℕ) → cond b 1 0 + n ≡ 0 → (b ≡ false) × (n ≡ 0)
no_more true n h = absurd (omega (arith, h))
no_more false n h = (refl, omega (arith, h))

-- a message is counted, whatever comes of it
module _ (form : Form) (number : ℕ) (now : State) (s : Step) (refused : s.refused ≡ false) (lacking : s.lacking ≡ false) (differs : s.differs ≡ false) (answers : s.answers ≡ false) where
  sent_counted : (bpdu : Bpdu) (sender : Option PortName) → ServesSent form number now bpdu sender s → ⊥
  sent_counted bpdu None h = true≢false (sym (ap (λ (t : Step). t.refused) h) ∙ refused)
  sent_counted bpdu (Some port) h = by h.0 (h.2 ∙ ap (λ lacks. compared form lacks number now port h.0) lacking)
    where
      by : (found : List Difference) → s ≡ compared form false number now port found → ⊥
      by [] e = true≢false (sym (ap (λ (t : Step). t.answers) e) ∙ answers)
      by (d ∷ ds) e = true≢false (sym (ap (λ (t : Step). t.differs) e) ∙ differs)

  no_message : (message : Option (Result Bpdu BpduFault)) → ServesMessage form number now message s → message ≡ None
  no_message None h = refl
  no_message (Some (Err fault)) h = absurd (true≢false (sym (ap (λ (t : Step). t.refused) h) ∙ refused))
  no_message (Some (Ok bpdu)) h = absurd (sent_counted bpdu (sender_of now.net bpdu) h)

of_none : {A : Type 0} (b : Bool) (x : A) → cond b None (Some x) ≡ None → b ≡ true
of_none true x h = refl
of_none false x h = absurd (cc)

-- so where nothing is counted no line is a message
pub none_counted : (form : Form) (number : ℕ) (now : State) (lines : List (List ℕ)) (steps : List Step) → Compares form number now lines steps → AreUncounted steps → list_all is_skipped lines ≡ true
unfolding RunsBy
none_counted form number now [] [] h none = refl
none_counted form number now [] (s ∷ steps) h none = absurd h
none_counted form number now (line ∷ lines) [] h none = absurd h
none_counted form number now (line ∷ lines) (s ∷ steps) h none =
    let refused = no_more s.refused (refusals_of steps) (sym (sum_by-cons (λ (t : Step). cond t.refused 1 0) s steps) ∙ none.refused) in
    let lacking = no_more s.lacking (lacks_of steps) (sym (sum_by-cons (λ (t : Step). cond t.lacking 1 0) s steps) ∙ none.lacking) in
    let differs = no_more s.differs (differing_of steps) (sym (sum_by-cons (λ (t : Step). cond t.differs 1 0) s steps) ∙ none.differs) in
    let answers = no_more s.answers (answers_of steps) (sym (sum_by-cons (λ (t : Step). cond t.answers 1 0) s steps) ∙ none.answers) in
    let here : is_skipped line ≡ true = of_none (is_skipped line) (reading line) (no_message form number now s refused.0 lacking.0 differs.0 answers.0 (capture_of line) h.0) in
    let others : list_all is_skipped lines ≡ true = none_counted form (number + 1) s.state lines steps h.1 (record { refused = refused.1; lacking = lacking.1; differs = differs.1; answers = answers.1 }) in
    λ i. here i && others i

-- and where no line is a message nothing is counted
pub all_skipped : (form : Form) (number : ℕ) (now : State) (lines : List (List ℕ)) (steps : List Step) → Compares form number now lines steps → list_all is_skipped lines ≡ true → AreUncounted steps
unfolding RunsBy
all_skipped form number now [] [] h skips = record { refused = refl; lacking = refl; differs = refl; answers = refl }
all_skipped form number now [] (s ∷ steps) h skips = absurd h
all_skipped form number now (line ∷ lines) [] h skips = absurd h
all_skipped form number now (line ∷ lines) (s ∷ steps) h skips =
    let both = and_parts (is_skipped line) (list_all is_skipped lines) skips in
    let message : capture_of line ≡ None = ap (λ b. cond b None (Some (reading line))) both.0 in
    let same : s ≡ silent now = subst (λ m. ServesMessage form number now m s) message h.0 in
    let others = all_skipped form (number + 1) s.state lines steps h.1 both.1 in
    record {
      refused = sum_by-cons (λ (t : Step). cond t.refused 1 0) s steps ∙ (λ i. cond ((same i).refused) 1 0 + others.refused i);
      lacking = sum_by-cons (λ (t : Step). cond t.lacking 1 0) s steps ∙ (λ i. cond ((same i).lacking) 1 0 + others.lacking i);
      differs = sum_by-cons (λ (t : Step). cond t.differs 1 0) s steps ∙ (λ i. cond ((same i).differs) 1 0 + others.differs i);
      answers = sum_by-cons (λ (t : Step). cond t.answers 1 0) s steps ∙ (λ i. cond ((same i).answers) 1 0 + others.answers i);
    }
