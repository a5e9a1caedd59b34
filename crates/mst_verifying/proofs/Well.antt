-- Verifying ends with status 0 just where each promise is kept: a line that isn't has rows, and is counted.
use Rattle.std.proofs.Common.{◌≡◌, ◌∙◌, ℕ, ◌+◌, Bool, true, false, cond, nat_eq, List, [], ◌∷◌, Option, Some, None, Ok, refl, sym, ap, arith}
use Rattle.std.specs.Prelude.{◌↔◌, ⊤, MatchOption, Result}
use Rattle.std.specs.List.{AllByRecursion, AllZip, count_by}
use Rattle.std.proofs.lemmas.Bool.{eqb-true}
use Rattle.std.proofs.lemmas.List.Sums.{sum_by-cons}
use Rattle.mst_policy.specs.declared.expectation.Promise.{Promise}
use Rattle.mst_policy.specs.declared.policy.PolicyLine.{PolicyLine}
use Rattle.mst_rows.specs.Rows.{Row}
use Rattle.mst_graph.specs.Lists.{has_any}
use Rattle.mst_tables.specs.Tables.{Net}
use Rattle.mst_forest.specs.Outcome.{Outcome}
use Rattle.mst_io.specs.declared.outcome.Outcome.{Outcome as Counted}
use Rattle.mst_io.specs.declared.outcome.RunFault.{RunFault}
use Rattle.mst_tool.specs.Run.{status_of}
use Rattle.mst_tool.specs.Status.{IsGood}
use Rattle.mst_tool.specs.engine.Steps.{left_by}
use Rattle.mst_tool.specs.engine.print.declared.form.Form.{Form}
use Rattle.mst_tool.specs.engine.report.State.{empty_state}
use Rattle.mst_verdict.specs.reasons.Judged.{IsKept}
use Rattle.mst_verdict.specs.reasons.Named.{nothing_before}
use Rattle.mst_verdict.specs.reasons.Risks.{events as events_of}
use Rattle.mst_verdict.specs.sweep.Failures.{Event}
use Rattle.mst_verdict.specs.telling.Told.{judged}
use Rattle.mst_verdict.specs.telling.Verified.{Counts, IsToldWhereBroken}
use Rattle.mst_verifying.specs.Verify.{Told, Verifies}
use Rattle.mst_verifying.specs.declared.question.PolicyQuestion.TheVariants.{Promises}
use Rattle.mst_verifying.specs.Well.{IsLineKept, IsWell}

none_counted : (rows : List Row) (told : List (List Row)) → count_by has_any (rows ∷ told) ≡ 0 → (rows ≡ []) × (count_by has_any told ≡ 0)
none_counted [] told none = let sum : count_by has_any ([] ∷ told) ≡ 0 + count_by has_any told = sum_by-cons (λ (rows : List Row). cond (has_any rows) 1 0) [] told in (refl, omega (arith, none, sum))
none_counted (row ∷ rows) told none =
    let sum : count_by has_any ((row ∷ rows) ∷ told) ≡ 1 + count_by has_any told = sum_by-cons (λ (rows : List Row). cond (has_any rows) 1 0) (row ∷ rows) told in
    let wrong : ⊥ = omega (arith, none, sum) in
    absurd wrong

count_none : (rows : List Row) (told : List (List Row)) → rows ≡ [] → count_by has_any told ≡ 0 → count_by has_any (rows ∷ told) ≡ 0
count_none rows told none rest =
    let sum : count_by has_any ([] ∷ told) ≡ 0 + count_by has_any told = sum_by-cons (λ (rows : List Row). cond (has_any rows) 1 0) [] told in
    let here : count_by has_any ([] ∷ told) ≡ 0 = omega (arith, sum, rest) in
    ap (λ (rows : List Row). count_by has_any (rows ∷ told)) none ∙ here

module _ (net : Net) (o : Outcome) (events : List Event) where
  kept_one : (rows : List Row) (promise : Option Promise) → MatchOption promise (rows ≡ []) (λ p. (rows ≡ []) ↔ IsKept net o nothing_before events p) → rows ≡ [] → MatchOption promise ⊤ (IsKept net o nothing_before events)
  kept_one rows None told none = tt
  kept_one rows (Some promise) told none = told.0 none

  none_of : (rows : List Row) (promise : Option Promise) → MatchOption promise (rows ≡ []) (λ p. (rows ≡ []) ↔ IsKept net o nothing_before events p) → MatchOption promise ⊤ (IsKept net o nothing_before events) → rows ≡ []
  none_of rows None told kept = told
  none_of rows (Some promise) told kept = told.1 kept

  all_kept : (lines : List PolicyLine) (told : List (List Row)) → AllZip (IsToldWhereBroken net o events) lines told → count_by has_any told ≡ 0 → AllByRecursion (IsLineKept net o events) lines
  all_kept [] [] all none = tt
  all_kept [] (rows ∷ told) all none = absurd all
  all_kept (line ∷ lines) [] all none = absurd all
  all_kept (line ∷ lines) (rows ∷ told) all none = let parts = none_counted rows told none in (kept_one rows (judged net events line) all.0 parts.0, all_kept lines told all.1 parts.1)

  none_told : (lines : List PolicyLine) (told : List (List Row)) → AllZip (IsToldWhereBroken net o events) lines told → AllByRecursion (IsLineKept net o events) lines → count_by has_any told ≡ 0
  none_told [] [] all kept = refl
  none_told [] (rows ∷ told) all kept = absurd all
  none_told (line ∷ lines) [] all kept = absurd all
  none_told (line ∷ lines) (rows ∷ told) all kept = count_none rows told (none_of rows (judged net events line) all.0 kept.0) (none_told lines told all.1 kept.1)

abbrev one_unless : Bool → ℕ
one_unless b = cond b 0 1

none_fails : (failing : ℕ) → one_unless (nat_eq failing 0) ≡ 0 → failing ≡ 0
none_fails failing = go (nat_eq failing 0) refl
  where
    go : (b : Bool) → nat_eq failing 0 ≡ b → one_unless b ≡ 0 → failing ≡ 0
    go true none e = eqb-true failing 0 none
    go false some e = let wrong : 1 ≡ 0 = e in omega (arith, wrong)

pub well_where_kept : ((ran : Result Counted RunFault) → (status_of ran ≡ 0) ↔ IsGood ran) → (form : Form) (scripts policies : Option (List ℕ)) (text : List ℕ) (outcome : Counted) → (v : Verifies form Promises scripts policies text outcome)
    → (status_of (Ok outcome) ≡ 0) ↔ IsWell (left_by empty_state v.steps).net v.tells.1.1.outcome v.steps v.lines v.tells.0
well_where_kept good form scripts policies text outcome v =
    let net = (left_by empty_state v.steps).net in
    let events = events_of net v.lines in
    let counts = v.tells.0 in
    let found = v.tells.1.1 in
    let same = v.tells.2 in
    let refused : v.told.refused ≡ counts.refused = ap (λ (told : Told). told.refused) same in
    let failing : v.told.telling ≡ count_by has_any found.told.told = ap (λ (told : Told). told.telling) same ∙ ap (λ (counts : Counts). counts.failing) found.told.counted in (
      λ zero.
          let well = (good (Ok outcome)).0 zero in
          record {
            accepted = omega (arith, well.0, v.refused);
            served = sym v.memory ∙ well.1;
            unrefused = omega (arith, well.0, v.refused, refused);
            kept = all_kept net found.outcome events v.lines found.told.told found.broken (sym failing ∙ none_fails v.told.telling (sym v.differing ∙ well.2));
          },
      λ well. (good (Ok outcome)).1 (
        v.refused ∙ (λ i. well.accepted i + (refused ∙ well.unrefused) i),
        v.memory ∙ well.served,
        v.differing ∙ ap (λ n. one_unless (nat_eq n 0)) (failing ∙ none_told net found.outcome events v.lines found.told.told found.broken well.kept),
      ),
    )
