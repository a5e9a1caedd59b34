-- That lines can be asked, and what they do in one way.
use Rattle.std.proofs.Common.{◌≡◌, ◌⊎◌, inl, inr, ℕ, ◌+◌, Bool, true, false, true≢false, zero, suc, List, [], ◌∷◌, Option, Some, None, Result, Ok, Err, refl, sym, ap, subst, ◌∙◌}
use Rattle.std.specs.Prelude.{IsOk, IsSome, is_some}
use Rattle.std.specs.List.{AllByRecursion}
use Rattle.mst_lang.specs.Faults as fault
use Rattle.mst_lang.specs.Ranges.{InRange}
use Rattle.mst_lang.specs.declared.line.Edit.{Edit}
use Rattle.mst_lang.specs.declared.line.Fault.{Fault}
use Rattle.mst_lang.specs.declared.line.Line.TheVariants.{Blank, Mark, Edit as edit, Query as query}
use Rattle.mst_lang.specs.declared.line.Query.{Query}
use Rattle.mst_lang.specs.declared.line.Version.{Version}
use Rattle.mst_net.specs.tables.After.{after}
use Rattle.mst_net.specs.tables.Refusals as refusal
use Rattle.mst_verifying.specs.verdict.Verifying.{Verifies}
use Rattle.mst_verifying.specs.verdict.Risking.{TellsRisks}
use Rattle.mst_verifying.specs.verdict.declared.risking.RiskCounts.{RiskCounts}
use Rattle.mst_net.specs.tables.Tables.{Net, IsNetwork}
use Rattle.mst_net.specs.tables.declared.refusal.Refusal.{Refusal}
use Rattle.mst_questions.specs.tool.engine.Script.{ServesRead, answered as answered_by, marked}
use Rattle.mst_questions.specs.tool.engine.Steps.{Step, silent}
use Rattle.mst_questions.specs.tool.engine.report.Answers.{Answers}
use Rattle.mst_questions.specs.tool.engine.report.State.{State, IsState}
use Rattle.mst_questions.proofs.tool_lemmas.engine_lemmas.OneRun.{Laws, answered_keeps}
use Rattle.mst_policy.specs.declared.policy.PolicyLine.{PolicyLine}
use Rattle.mst_questions.specs.tool.engine.print.Shape.{of_script}
use Rattle.mst_questions.specs.tool.engine.print.declared.form.Form.{Form}
use Rattle.mst_questions.specs.tool.engine.print.declared.form.Shape.{Shape}
use Rattle.mst_rows.specs.Rows.{Row}
use Rattle.mst_questions.specs.Ask.{is_refused}
use Rattle.mst_tracing.specs.Trace as trace
use Rattle.mst_tracing.specs.Ends.{untraced_of}
use Rattle.mst_tracing.specs.declared.asked.Asked.{Asked}
use Rattle.mst_tracing.specs.declared.asked.PathQuestion.{PathQuestion}
use Rattle.mst_tracing.specs.declared.asked.PathQuestion.TheVariants as path
use Rattle.mst_tracing.proofs.WholeTrace.{OneTrace, one_traced}
use Rattle.mst_verifying.specs.Verify as by_policy
use Rattle.mst_verifying.specs.declared.question.PolicyQuestion.{PolicyQuestion}
use Rattle.mst_verifying.specs.declared.question.PolicyQuestion.TheVariants.{Promises, Risks}
use Rattle.mst_questions.proofs.EarlyRefusals.{refused_answer}
use Rattle.mst_questions.proofs.tool_lemmas.Shown.{one_shown}
use Rattle.mst_questions.proofs.WholeAsk.{OneOfEach, one_answer}
use Rattle.mst_verifying.specs.verdict.telling.Verified.{Counts}
use Rattle.mst_ask.specs.Requests.{request_of}
use Rattle.mst_ask.specs.Standing.{Made, Standing, Turn, Asks, AsksBy, AsksLine, IsStanding, answered, back, declined, edited, lacking_of, left_after, passed, starved, stepped, traced, undone, verified}
use Rattle.mst_ask.specs.declared.request.Request.{Request}
use Rattle.mst_ask.specs.declared.request.Request.TheVariants.{Script, Word, Undo, Policy, Path}
use Rattle.mst_ask.proofs.Requests.{script_said}
use Rattle.mst_ask.proofs.Turns.{alike_both, asks-first, asks-none}

-- what each edit that a line asks for says is in its range
abbrev InRanges : Result Request Fault → Type 0
InRanges request = (e : Edit) → request ≡ Ok (Script (edit e)) → InRange e

-- a network is judged by a policy in one way, and its risks are told in one way
pub record OneByPolicy : Type 0 where
  pub promises : (net : Net) (lines : List PolicyLine) (c d : Counts) (rows other : List Row) → IsNetwork net → Verifies net lines c rows → Verifies net lines d other → (c ≡ d) × (rows ≡ other)
  pub risks : (net : Net) (lines : List PolicyLine) (c d : RiskCounts) (rows other : List Row) → IsNetwork net → TellsRisks net lines c rows → TellsRisks net lines d other → (c ≡ d) × (rows ≡ other)

one_by_policy : OneByPolicy → (form : Form) (question : PolicyQuestion) (net : Net) (lines : List PolicyLine) (a b : by_policy.Told) (text other : List ℕ) → IsNetwork net
    → by_policy.TellsAnswer form question net lines a text → by_policy.TellsAnswer form question net lines b other → (a ≡ b) × (text ≡ other)
one_by_policy one form Promises net lines a b text other is h k =
    let same = one_shown form by_policy.verify_row (Verifies net lines h.0) (Verifies net lines k.0) (h.0 ≡ k.0) (λ rows more p q. let both = one.promises net lines h.0 k.0 rows more is p q in (both.1, both.0)) text other h.1 k.1 in
    (h.2 ∙ ap by_policy.told_of_promises same.1 ∙ sym k.2, same.0)
one_by_policy one form Risks net lines a b text other is h k =
    let same = one_shown form by_policy.risks_row (TellsRisks net lines h.0) (TellsRisks net lines k.0) (h.0 ≡ k.0) (λ rows more p q. let both = one.risks net lines h.0 k.0 rows more is p q in (both.1, both.0)) text other h.1 k.1 in
    (h.2 ∙ ap by_policy.told_of_risks same.1 ∙ sym k.2, same.0)

-- a path that is refused has an answer
refused_path : (form : Form) (net : Net) (question : PathQuestion) → trace.is_refused net question ≡ true → (told : trace.Told) × (text : List ℕ) × trace.IsAnswer form net question told text
refused_path form net (path.Unread f) h = (trace.not_given, trace.untraced_in form (fault.code_of f) (fault.text_of f), (refl, refl))
refused_path form net (path.Path asked) h = by (untraced_of net asked.trace) h
  where
    by : (why : Option Refusal) → is_some why ≡ true → (told : trace.Told) × (text : List ℕ) × trace.TellsPath form net asked why told text
    by None h = absurd (cc)
    by (Some why) h = (trace.not_given, trace.untraced_in form (refusal.code_of why) (refusal.text_of why), (refl, refl))

module _ (laws : Laws) (form : Form) where
  shape : Shape
  shape = of_script form

  ranges_of : (version : Version) (line : List ℕ) → InRanges (request_of version line)
  ranges_of version line e is = laws.ranges version line e (script_said version line (edit e) is)

  -- ---- what stands stays a network
  same_standing : (now next : Standing) → next ≡ now → IsStanding now → IsStanding next
  same_standing now next same is = subst IsStanding (sym same) is

  -- where a turn is this one
  turn_is : (t u : Turn) → t ≡ u → IsStanding u.standing → IsStanding t.standing
  turn_is t u same is = subst (λ (v : Turn). IsStanding v.standing) (sym same) is

  mark_kept : (number : ℕ) (now : State) (s : Step) → IsState now → ServesRead (of_script form) number now (Ok Mark) s → IsState s.state
  mark_kept number now s is h = by s.lacking h.2
    where
      by : (lacks : Bool) → s ≡ marked (of_script form) lacks number now h.0 → IsState s.state
      by true k = subst (λ (t : Step). IsState t.state) (sym k) is
      by false k = subst (λ (t : Step). IsState t.state) (sym k) (record { network = is.network; mark = laws.marks now.net h.0 is.network h.1 })

  query_kept : (number : ℕ) (now : State) (q : Query) (s : Step) → IsState now → ServesRead (of_script form) number now (Ok (query q)) s → IsState s.state
  query_kept number now q s is h = subst IsState (sym (ap (λ (u : Step). u.state) h.2 ∙ answered_keeps (of_script form) s.lacking number now q h.0)) is

  edited_kept : (number : ℕ) (now : Standing) (line : List ℕ) (e : Edit) (new : Result Net Refusal) → IsStanding now → InRange e → after e now.state.net ≡ new → IsStanding (edited form number now line new).standing
  edited_kept number now line e (Err r) is range h = is
  edited_kept number now line e (Ok new) is range h = record {
    state = record { network = laws.networks e now.state.net new range is.state.network h; mark = is.state.mark };
    made = (is.state.network, is.made);
  }

  back_kept : (count : ℕ) (net : Net) (made : List Made) (was : Net × List Made) → IsNetwork net → AllByRecursion (λ m. IsNetwork m.before) made → back count net made ≡ Some was → IsNetwork was.0 × AllByRecursion (λ m. IsNetwork m.before) was.1
  back_kept zero net made was is all h = subst (λ w. IsNetwork w.0 × AllByRecursion (λ m. IsNetwork m.before) w.1) (inside h) (is, all)
    where
      inside : {x y : Net × List Made} → Some x ≡ Some y → x ≡ y
      inside {x} {y} e = ap (or_this x) e
        where
          or_this : Net × List Made → Option (Net × List Made) → Net × List Made
          or_this x None = x
          or_this x (Some z) = z
  back_kept (suc count) net [] was is all h = absurd (cc)
  back_kept (suc count) net (m ∷ made) was is all h = back_kept count m.before made was all.0 all.1 h

  undone_kept : (number count : ℕ) (now : Standing) (was : Option (Net × List Made)) → IsStanding now → back count now.state.net now.made ≡ was → IsStanding (undone form number count now was).standing
  undone_kept number count now None is h = is
  undone_kept number count now (Some was) is h =
      let kept = back_kept count now.state.net now.made was is.state.network is.made h in
      record { state = record { network = kept.0; mark = is.state.mark }; made = kept.1 }

  pub turn_kept : (number : ℕ) (now : Standing) (line : List ℕ) (request : Result Request Fault) (t : Turn) → IsStanding now → InRanges request → Asks form number now line request t → IsStanding t.standing
  turn_kept number now line (Err f) t is ranges h = turn_is t (declined form number now (fault.code_of f) (fault.text_of f)) h is
  turn_kept number now line (Ok (Script Blank)) t is ranges h = turn_is t (passed now) h is
  turn_kept number now line (Ok (Script Mark)) t is ranges h = turn_is t (stepped form now h.0) h.2 (record { state = mark_kept number now.state h.0 is.state h.1; made = is.made })
  turn_kept number now line (Ok (Script (query q))) t is ranges h = turn_is t (stepped form now h.0) h.2 (record { state = query_kept number now.state q h.0 is.state h.1; made = is.made })
  turn_kept number now line (Ok (Script (edit e))) t is ranges (inl h) = turn_is t (edited form number now line (after e now.state.net)) h (edited_kept number now line e (after e now.state.net) is (ranges e refl) refl)
  turn_kept number now line (Ok (Script (edit e))) t is ranges (inr h) = turn_is t (starved form number now) h.1 is
  turn_kept number now line (Ok (Word question)) t is ranges (inl h) = turn_is t (answered form now h.0 h.1) h.3 is
  turn_kept number now line (Ok (Word question)) t is ranges (inr h) = turn_is t (starved form number now) h.1 is
  turn_kept number now line (Ok (Undo count)) t is ranges (inl h) = turn_is t (undone form number count now (back count now.state.net now.made)) h (undone_kept number count now (back count now.state.net now.made) is refl)
  turn_kept number now line (Ok (Undo count)) t is ranges (inr h) = turn_is t (starved form number now) h.1 is
  turn_kept number now line (Ok (Policy question)) t is ranges (inl h) = turn_is t (verified form now h.0 h.1) h.3 is
  turn_kept number now line (Ok (Policy question)) t is ranges (inr h) = turn_is t (starved form number now) h is
  turn_kept number now line (Ok (Path question)) t is ranges (inl h) = turn_is t (traced form now h.0 h.1) h.3 is
  turn_kept number now line (Ok (Path question)) t is ranges (inr h) = turn_is t (starved form number now) h.1 is

  pub line_kept : (version : Version) (number : ℕ) (now : Standing) (line : List ℕ) (t : Turn) → IsStanding now → AsksLine form version number now line t → IsStanding t.standing
  line_kept version number now line t is h = turn_kept number now line (request_of version line) t is (ranges_of version line) h

  pub left_kept : (version : Version) (number : ℕ) (now : Standing) (lines : List (List ℕ)) (turns : List Turn) → IsStanding now → AsksBy form version number now lines turns → IsStanding (left_after now turns)
  unfolding AsksBy
  left_kept version number now [] [] is h = is
  left_kept version number now [] (t ∷ turns) is h = absurd h
  left_kept version number now (line ∷ lines) [] is h = absurd h
  left_kept version number now (line ∷ lines) (t ∷ turns) is h = left_kept version (number + 1) t.standing lines turns (line_kept version number now line t is h.0) h.1

  -- ---- lines can be asked
  module _ (there : (q : Query) (now : State) → IsState now → (answer : Result (List Row) Refusal) × Answers q now answer) where
    some_turn : (number : ℕ) (now : Standing) (line : List ℕ) (request : Result Request Fault) → IsStanding now → (t : Turn) × Asks form number now line request t
    some_turn number now line (Err f) is = (declined form number now (fault.code_of f) (fault.text_of f), refl)
    some_turn number now line (Ok (Script Blank)) is = (passed now, refl)
    some_turn number now line (Ok (Script Mark)) is =
        let m = laws.entries now.state.net is.state.network in
        let s = silent (record now.state { mark = Some m.0 }) in
        (stepped form now s, (s, (m.0, m.1, refl), refl))
    some_turn number now line (Ok (Script (query q))) is = let a = there q now.state is.state in by a.0 a.1
      where
        by : (answer : Result (List Row) Refusal) → Answers q now.state answer → (t : Turn) × Asks form number now line (Ok (Script (query q))) t
        by (Err r) a = let s = answered_by (of_script form) false number now.state q (Err r) in (stepped form now s, (s, (Err r, a, refl), refl))
        by (Ok rows) a = let s = answered_by (of_script form) false number now.state q (Ok rows) in (stepped form now s, (s, (Ok rows, a, refl), refl))
    some_turn number now line (Ok (Script (edit e))) is = (edited form number now line (after e now.state.net), inl refl)
    some_turn number now line (Ok (Word question)) is = by (is_refused now.state.net question) refl
      where
        by : (refused : Bool) → is_refused now.state.net question ≡ refused → (t : Turn) × Asks form number now line (Ok (Word question)) t
        by true h = let a = refused_answer form now.state.net question h in (answered form now a.0 a.1, inl (a.0, a.1, a.2, refl))
        by false h = (starved form number now, inr (h, refl))
    some_turn number now line (Ok (Undo count)) is = (undone form number count now (back count now.state.net now.made), inl refl)
    some_turn number now line (Ok (Policy question)) is = (starved form number now, inr refl)
    some_turn number now line (Ok (Path question)) is = by (trace.is_refused now.state.net question) refl
      where
        by : (refused : Bool) → trace.is_refused now.state.net question ≡ refused → (t : Turn) × Asks form number now line (Ok (Path question)) t
        by true h = let a = refused_path form now.state.net question h in (traced form now a.0 a.1, inl (a.0, a.1, a.2, refl))
        by false h = (starved form number now, inr (h, refl))

    pub some_turns : (version : Version) (number : ℕ) (now : Standing) (lines : List (List ℕ)) → IsStanding now → (turns : List Turn) × AsksBy form version number now lines turns
    some_turns version number now [] is = ([], asks-none form version number now)
    some_turns version number now (line ∷ lines) is =
        let t = some_turn number now line (request_of version line) is in
        let rest = some_turns version (number + 1) (t.0).standing lines (line_kept version number now line t.0 is t.1) in
        (t.0 ∷ rest.0, asks-first form version number now line lines t.0 rest.0 t.1 rest.1)

  -- ---- and in one way
  edited_full : (number : ℕ) (now : Standing) (line : List ℕ) (new : Result Net Refusal) → (edited form number now line new).lacking ≡ false
  edited_full number now line (Err r) = refl
  edited_full number now line (Ok new) = refl

  undone_full : (number count : ℕ) (now : Standing) (was : Option (Net × List Made)) → (undone form number count now was).lacking ≡ false
  undone_full number count now None = refl
  undone_full number count now (Some was) = refl

  -- one that lacked memory isn't one that didn't
  not_both : (s t full : Turn) (number : ℕ) (now : Standing) → full.lacking ≡ false → s ≡ full → t ≡ starved form number now → s.lacking ≡ t.lacking → ⊥
  not_both s t full number now none h k alike = true≢false (sym (ap (λ (u : Turn). u.lacking) k) ∙ sym alike ∙ ap (λ (u : Turn). u.lacking) h ∙ none)

  either_one : (s t full : Turn) (May : Type 0) (number : ℕ) (now : Standing) → full.lacking ≡ false → (s ≡ full) ⊎ (May × (s ≡ starved form number now)) → (t ≡ full) ⊎ (May × (t ≡ starved form number now)) → s.lacking ≡ t.lacking → s ≡ t
  either_one s t full May number now none (inl h) (inl k) alike = h ∙ sym k
  either_one s t full May number now none (inr h) (inr k) alike = h.1 ∙ sym k.1
  either_one s t full May number now none (inl h) (inr k) alike = absurd (not_both s t full number now none h k.1 alike)
  either_one s t full May number now none (inr h) (inl k) alike = absurd (not_both t s full number now none k h.1 (sym alike))

  -- the steps of both lack memory where the turns do
  steps_alike : (now : Standing) (s t : Turn) (a b : Step) → s ≡ stepped form now a → t ≡ stepped form now b → s.lacking ≡ t.lacking → a.lacking ≡ b.lacking
  steps_alike now s t a b h k alike = sym (ap (λ (u : Turn). u.lacking) h) ∙ alike ∙ ap (λ (u : Turn). u.lacking) k

  module _ (answers : (q : Query) (now : State) (a b : Result (List Row) Refusal) → IsNetwork now.net → Answers q now a → Answers q now b → a ≡ b) (one : OneOfEach) (judged : OneByPolicy) (one_trace : OneTrace) where
    one_turn : (number : ℕ) (now : Standing) (line : List ℕ) (request : Result Request Fault) (s t : Turn) → IsStanding now → Asks form number now line request s → Asks form number now line request t → s.lacking ≡ t.lacking → s ≡ t
    one_turn number now line (Err f) s t is h k alike = h ∙ sym k
    one_turn number now line (Ok (Script Blank)) s t is h k alike = h ∙ sym k
    one_turn number now line (Ok (Script Mark)) s t is h k alike =
        let lacks = steps_alike now s t h.0 k.0 h.2 k.2 alike in
        let entries : h.1.0 ≡ k.1.0 = laws.one_rows now.state.net h.1.0 k.1.0 is.state.network h.1.1 k.1.1 in
        let same : h.0 ≡ k.0 = h.1.2 ∙ (λ i. marked (of_script form) (lacks i) number now.state (entries i)) ∙ sym k.1.2 in
        h.2 ∙ ap (stepped form now) same ∙ sym k.2
    one_turn number now line (Ok (Script (query q))) s t is h k alike =
        let lacks = steps_alike now s t h.0 k.0 h.2 k.2 alike in
        let answer : h.1.0 ≡ k.1.0 = answers q now.state h.1.0 k.1.0 is.state.network h.1.1 k.1.1 in
        let same : h.0 ≡ k.0 = h.1.2 ∙ (λ i. answered_by (of_script form) (lacks i) number now.state q (answer i)) ∙ sym k.1.2 in
        h.2 ∙ ap (stepped form now) same ∙ sym k.2
    one_turn number now line (Ok (Script (edit e))) s t is h k alike = either_one s t (edited form number now line (after e now.state.net)) (IsOk (after e now.state.net)) number now (edited_full number now line (after e now.state.net)) h k alike
    one_turn number now line (Ok (Undo count)) s t is h k alike = either_one s t (undone form number count now (back count now.state.net now.made)) (IsSome (back count now.state.net now.made)) number now (undone_full number count now (back count now.state.net now.made)) h k alike
    one_turn number now line (Ok (Word question)) s t is (inr h) (inr k) alike = h.1 ∙ sym k.1
    one_turn number now line (Ok (Word question)) s t is (inl h) (inr k) alike = absurd (not_both s t (answered form now h.0 h.1) number now refl h.3 k.1 alike)
    one_turn number now line (Ok (Word question)) s t is (inr h) (inl k) alike = absurd (not_both t s (answered form now k.0 k.1) number now refl k.3 h.1 (sym alike))
    one_turn number now line (Ok (Word question)) s t is (inl h) (inl k) alike =
        let same = one_answer one form now.state.net question h.0 k.0 h.1 k.1 is.state.network h.2 k.2 in
        h.3 ∙ (λ i. answered form now (sym same.0 i) (sym same.1 i)) ∙ sym k.3
    one_turn number now line (Ok (Policy question)) s t is (inr h) (inr k) alike = h ∙ sym k
    one_turn number now line (Ok (Policy question)) s t is (inl h) (inr k) alike = absurd (not_both s t (verified form now h.0 h.1) number now refl h.3 k alike)
    one_turn number now line (Ok (Policy question)) s t is (inr h) (inl k) alike = absurd (not_both t s (verified form now k.0 k.1) number now refl k.3 h (sym alike))
    one_turn number now line (Ok (Policy question)) s t is (inl h) (inl k) alike =
        let same = one_by_policy judged form question now.state.net now.policy h.0 k.0 h.1 k.1 is.state.network h.2 k.2 in
        h.3 ∙ (λ i. verified form now (same.0 i) (same.1 i)) ∙ sym k.3
    one_turn number now line (Ok (Path question)) s t is (inr h) (inr k) alike = h.1 ∙ sym k.1
    one_turn number now line (Ok (Path question)) s t is (inl h) (inr k) alike = absurd (not_both s t (traced form now h.0 h.1) number now refl h.3 k.1 alike)
    one_turn number now line (Ok (Path question)) s t is (inr h) (inl k) alike = absurd (not_both t s (traced form now k.0 k.1) number now refl k.3 h.1 (sym alike))
    one_turn number now line (Ok (Path question)) s t is (inl h) (inl k) alike =
        let same = one_traced one_trace form now.state.net question h.0 k.0 h.1 k.1 is.state.network h.2 k.2 in
        h.3 ∙ (λ i. traced form now (sym same.0 i) (sym same.1 i)) ∙ sym k.3

    pub one_asked : (version : Version) (number : ℕ) (now : Standing) (lines : List (List ℕ)) (a b : List Turn) → IsStanding now → AsksBy form version number now lines a → AsksBy form version number now lines b → lacking_of a ≡ lacking_of b → a ≡ b
    unfolding AsksBy
    one_asked version number now [] [] [] is h k alike = refl
    one_asked version number now [] [] (t ∷ b) is h k alike = absurd k
    one_asked version number now [] (s ∷ a) b is h k alike = absurd h
    one_asked version number now (line ∷ lines) [] b is h k alike = absurd h
    one_asked version number now (line ∷ lines) (s ∷ a) [] is h k alike = absurd k
    one_asked version number now (line ∷ lines) (s ∷ a) (t ∷ b) is h k alike =
        let both = alike_both s t a b alike in
        let same : s ≡ t = one_turn number now line (request_of version line) s t is h.0 k.0 both.0 in
        let rest : a ≡ b = one_asked version (number + 1) s.standing lines a b (line_kept version number now line s is h.0) h.1 (subst (λ (u : Turn). AsksBy form version (number + 1) u.standing lines b) (sym same) k.1) both.1 in
        λ i. same i ∷ rest i
