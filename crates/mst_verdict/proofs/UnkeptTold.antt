-- A line that is judged has no rows just where its promise is kept.
use Rattle.std.proofs.Common.{◌≡◌, ◌↔◌, ◌∙◌, ℕ, append-nil, ◌++◌, ◌∷◌, ◌&&◌, ◌||◌, not, Bool, true, false, true≢false, [], List, cond, map, is_none, is_some, Option, Some, None, Ok, Err, Result, refl, sym, ap, subst, inl, inr}
use Rattle.std.specs.Prelude.{MatchOption}
use Rattle.std.specs.List.{AllZip, Contains, filter, list_any}
use Rattle.std.specs.Option.{option_and_then, option_map_or}
use Rattle.mst_graph.proofs.Members.{cases, from_map, here, in_map, in_none, there}
use Rattle.mst_lang.specs.declared.line.Fault.{Fault}
use Rattle.mst_policy.specs.Leaving.{Leaving}
use Rattle.mst_policy.specs.declared.expectation.Expectation.{Expectation}
use Rattle.mst_policy.specs.declared.expectation.Promise.{Promise}
use Rattle.mst_policy.specs.Lines.{promise_in}
use Rattle.mst_policy.specs.declared.policy.PolicyLine.{PolicyLine}
use Rattle.mst_policy.specs.declared.risk.Said.{Said}
use Rattle.mst_policy.specs.declared.risk.Said.TheVariants as says
use Rattle.mst_rows.specs.Rows.{Row}
use Rattle.mst_graph.specs.Lists.{has_any}
use Rattle.mst_net.specs.tables.Tables.{Net, IsNetwork}
use Rattle.mst_forest.specs.Outcome.{Outcome, IsOutcome}
use Rattle.mst_sweeping.specs.sweep.Failures.{Event, failed}
use Rattle.mst_sweeping.specs.sweep.declared.failure.Failure.{Failure}
use Rattle.mst_verify.specs.tree_judges.judged.reasons.Holds.{Holds}
use Rattle.mst_verify.specs.tree_judges.judged.reasons.Judged.{HoldsAfter, IsKept, asks_at, asks_now, has_now, looks_back, places}
use Rattle.mst_verify.specs.tree_judges.judged.reasons.Missing.{missing}
use Rattle.mst_verify.specs.tree_judges.judged.reasons.Named.{Prior, nothing_before, with_before}
use Rattle.mst_verify.specs.tree_judges.judged.reasons.Placed.{AreReasonsAfter, AreReasonsAt}
use Rattle.mst_verify.specs.tree_judges.judged.reasons.Reasons.{AreReasons}
use Rattle.mst_verify.specs.tree_judges.judged.reasons.declared.missing.Missing.{Missing}
use Rattle.mst_verify.specs.tree_judges.judged.reasons.declared.reason.Reason.{Reason}
use Rattle.mst_telling.specs.Lines.{IsLineTold, IsToldWhereUnkept, unkept_by, unkept_rows}
use Rattle.mst_telling.specs.Told.{AreFound, AreLineReasons, Found, IsFoundAt, cause_at, expected_at, has_reason, is_now, judged, lacked, lacking_rows, lacks_nothing, looks_at, missing_rows, tells_once}
use Rattle.mst_telling.specs.Verified.{IsToldWhereBroken, IsVerdict, is_broken_by, rows_of_read, verdict_rows}
use Rattle.mst_sweeping.proofs.sweep_lemmas.Together.{failed_network}
use Rattle.mst_telling.proofs.Only.{no_more, nothing_unkept, unkept_some, verdict_some}

-- ---- lists
none_has : {X : Type 0} (test : X → Bool) (xs : List X) → list_any test xs ≡ false → (x : X) → Contains xs x → test x ≡ false
none_has test [] e x h = absurd (in_none x h)
none_has test (y ∷ ys) e x h = go (λ e there. none_has test ys e x there) (test y) refl e
  where
    go : (list_any test ys ≡ false → Contains ys x → test x ≡ false) → (b : Bool) → test y ≡ b → (b || list_any test ys) ≡ false → test x ≡ false
    go rest true k e = absurd (true≢false e)
    go rest false k e = elim (cases y x ys h) [ inl same ↦ ap test (sym same) ∙ k | inr there ↦ rest e there ]

has_none : {X : Type 0} (test : X → Bool) (xs : List X) → ((x : X) → Contains xs x → test x ≡ false) → list_any test xs ≡ false
has_none test [] none = refl
has_none test (x ∷ xs) none = (λ i. none x (here x xs) i || has_none test xs (λ y h. none y (there x y xs h)) i)

-- those that are left out don't pass the other test
any_kept : {X : Type 0} (own test : X → Bool) → ((x : X) → own x ≡ false → test x ≡ false) → (xs : List X) → list_any test (filter own xs) ≡ list_any test xs
any_kept own test none [] = refl
any_kept {X} own test none (x ∷ xs) = go (any_kept own test none xs) (own x) refl
  where
    go : list_any test (filter own xs) ≡ list_any test xs → (b : Bool) → own x ≡ b → list_any test (cond b (x ∷ filter own xs) (filter own xs)) ≡ (test x || list_any test xs)
    go rest true e = ap (λ b. test x || b) rest
    go rest false e = rest ∙ ap (λ b. b || list_any test xs) (sym (none x e))

-- what is told of each thing, and of which thing a told one is
zip_at : {A B : Type 0} (R : A → B → Type 0) (xs : List A) (ys : List B) → AllZip R xs ys → (x : A) → Contains xs x → (y : B) × Contains ys y × R x y
zip_at R [] ys h x k = absurd (in_none x k)
zip_at R (a ∷ xs) [] h x k = absurd h
zip_at {A} {B} R (a ∷ xs) (b ∷ ys) h x k = elim (cases a x xs k) [
  | inl same ↦ (b, here b ys, subst (λ a. R a b) same h.0)
  | inr rest ↦ let r = zip_at R xs ys h.1 x rest in (r.0, there b r.0 ys r.1, r.2)
]

at_zip : {A B : Type 0} (R : A → B → Type 0) (xs : List A) (ys : List B) → AllZip R xs ys → (y : B) → Contains ys y → (x : A) × Contains xs x × R x y
at_zip R xs [] h y k = absurd (in_none y k)
at_zip R [] (b ∷ ys) h y k = absurd h
at_zip {A} {B} R (a ∷ xs) (b ∷ ys) h y k = elim (cases b y ys k) [
  | inl same ↦ (a, here a xs, subst (R a) same h.0)
  | inr rest ↦ let r = at_zip R xs ys h.1 y rest in (r.0, there a r.0 xs r.1, r.2)
]

filter_none : {X : Type 0} (test : X → Bool) (xs : List X) → ((x : X) → Contains xs x → test x ≡ false) → filter test xs ≡ []
filter_none test [] none = refl
filter_none {X} test (x ∷ xs) none = ap (λ b. cond b (x ∷ filter test xs) (filter test xs)) (none x (here x xs)) ∙ filter_none test xs (λ y h. none y (there x y xs h))

none_there : {B : Type 0} (ys : List B) → ys ≡ [] → has_any ys ≡ false
none_there ys e = ap has_any e

and_false : (b : Bool) → (b && false) ≡ false
and_false true = refl
and_false false = refl

first_not : (a b : Bool) → (a && b) ≡ false → b ≡ true → a ≡ false
first_not true b e k = absurd (true≢false (sym k ∙ e))
first_not false b e k = refl

first_false : (a b : Bool) → a ≡ false → (a && b) ≡ false
first_false a b e = ap (λ a. a && b) e

-- a place is the network itself by what it is told by
now_of : (place : Option Event) → is_now (cause_at place) ≡ is_now place
now_of None = refl
now_of (Some event) = refl

no_some : {A : Type 0} (x : A) → None ≡ Some x → ⊥
no_some x e = absurd (cc)

some_is : {A : Type 0} (x y : A) → Some x ≡ Some y → x ≡ y
some_is x y e = cc

of_place : (events : List Event) (event : Event) → Contains (places events) (Some event) → Contains events event
of_place events event h = elim (cases None (Some event) (map Some events) h) [
  | inl e ↦ absurd (no_some event e)
  | inr k ↦ let r = from_map Some events (Some event) k in subst (Contains events) (some_is r.0 event r.2) r.1
]

module _ (net : Net) (o : Outcome) (is : IsNetwork net) (are : IsOutcome net o) (events : List Event)
    (single : (net : Net) (o p : Outcome) → IsNetwork net → IsOutcome net o → IsOutcome net p → o ≡ p)
    (broken : (net : Net) (o : Outcome) (before : Net) (lost : List Failure) (prior : Prior) (e : Expectation) (reasons : List Reason) → IsNetwork net → IsOutcome net o → AreReasons net o before lost prior e reasons → (reasons ≡ []) ↔ Holds net o before lost prior e)
    (nothing_back : (leaving : Leaving) (e : Expectation) (reasons : List Reason) → looks_back e ≡ true → AreReasons net o net [] (record { before = None; leaving = leaving }) e reasons → reasons ≡ []) where
  -- ---- one place
  abbrev HoldsAt : Prior → Option Event → Expectation → Type 0
  HoldsAt prior None e = Holds net o net [] prior e
  HoldsAt prior (Some event) e = HoldsAfter net o prior event.failures e

  module _ (prior : Prior) (failures : List Failure) (e : Expectation) (reasons : List Reason) (x : AreReasonsAfter net o prior failures e reasons) where
    abbrev new : Net
    new = failed failures net

    ok : IsNetwork new
    ok = failed_network failures net is

    told_after : (reasons ≡ []) ↔ Holds new x.outcome net failures (with_before net o prior) e
    told_after = broken new x.outcome net failures (with_before net o prior) e reasons ok x.is_outcome x.are

    holds_after : reasons ≡ [] → HoldsAfter net o prior failures e
    holds_after none p its = subst (λ q. Holds new q net failures (with_before net o prior) e) (sym (single new p x.outcome ok its x.is_outcome)) (told_after.0 none)

    after_told : HoldsAfter net o prior failures e → reasons ≡ []
    after_told holds = told_after.1 (holds x.outcome x.is_outcome)

  told_at : (prior : Prior) (place : Option Event) (e : Expectation) (reasons : List Reason) → AreReasonsAt net o prior place e reasons → (reasons ≡ []) ↔ HoldsAt prior place e
  told_at prior None e reasons r = broken net o net [] prior e reasons is are r
  told_at prior (Some event) e reasons r = (holds_after prior event.failures e reasons r, after_told prior event.failures e reasons r)

  -- ---- one line
  module _ (prior : Prior) (line : PolicyLine) (promise : Promise) (its : judged net events line ≡ Some promise) where
    looked : (place : Option Event) (b : Bool) → looks_at (is_some prior.before) promise place ≡ b → expected_at net events (is_some prior.before) line place ≡ cond b (Some promise.expectation) None
    looked place b e = ap (option_and_then (λ promise. cond (looks_at (is_some prior.before) promise place) (Some promise.expectation) None)) its ∙ ap (λ b. cond b (Some promise.expectation) None) e

    reasons_there : (place : Option Event) (b : Bool) → looks_at (is_some prior.before) promise place ≡ b → (reasons : List Reason) → AreLineReasons net o prior events line place reasons
        → MatchOption (cond b (Some promise.expectation) None) (reasons ≡ []) (λ e. AreReasonsAt net o prior place e reasons)
    reasons_there place b e reasons r = subst (λ expected. MatchOption expected (reasons ≡ []) (λ e. AreReasonsAt net o prior place e reasons)) (looked place b e) r

    -- where it is judged, the place is looked at, and it is one that counts
    asked_looked : (place : Option Event) → asks_at (is_some prior.before) promise place ≡ true → looks_at (is_some prior.before) promise place ≡ true
    asked_looked place e = ap (λ b. (tells_once promise.scope && is_now place) || b) e ∙ or_true (tells_once promise.scope && is_now place)
      where
        or_true : (b : Bool) → (b || true) ≡ true
        or_true true = refl
        or_true false = refl

    asked_counts : (place : Option Event) → asks_at (is_some prior.before) promise place ≡ true → ((not (tells_once promise.scope) || has_now promise.scope) || not (is_now place)) ≡ true
    asked_counts None e = go (not (tells_once promise.scope)) (has_now promise.scope) e
      where
        go : (a b : Bool) → (b && (is_some prior.before || not (looks_back promise.expectation))) ≡ true → ((a || b) || false) ≡ true
        go true b e = refl
        go false true e = refl
        go false false e = e
    asked_counts (Some event) e = go (not (tells_once promise.scope) || has_now promise.scope)
      where
        go : (a : Bool) → (a || true) ≡ true
        go true = refl
        go false = refl

    holds_where : (place : Option Event) → asks_at (is_some prior.before) promise place ≡ true → (f : Found) → IsFoundAt net o prior events line place f → (f.reasons ≡ []) ↔ HoldsAt prior place promise.expectation
    holds_where place asked f x = told_at prior place promise.expectation f.reasons (reasons_there place true (asked_looked place asked) f.reasons x.are)

    -- a place where it isn't judged tells nothing that counts
    module _ (f : Found) where
      unlooked : (place : Option Event) → IsFoundAt net o prior events line place f → looks_at (is_some prior.before) promise place ≡ false → has_reason f ≡ false
      unlooked place x e = none_there f.reasons (reasons_there place false e f.reasons x.are)

      -- what looks back at no network has no reason
      back : (p : Option (Net × Outcome)) → prior.before ≡ p → is_some p ≡ false → looks_back promise.expectation ≡ true → AreReasonsAt net o prior None promise.expectation f.reasons → f.reasons ≡ []
      back None q n r are = nothing_back prior.leaving promise.expectation f.reasons r (subst (λ (p : Option (Net × Outcome)). AreReasonsAt net o (record { before = p; leaving = prior.leaving }) None promise.expectation f.reasons) q are)
      back (Some p) q n r are = absurd (true≢false n)

      looked_now : IsFoundAt net o prior events line None f → looks_at (is_some prior.before) promise None ≡ true → asks_now (is_some prior.before) promise ≡ false
          → (has_reason f && ((not (tells_once promise.scope) || has_now promise.scope) || false)) ≡ false
      looked_now x e unasked = go (tells_once promise.scope) (has_now promise.scope) (is_some prior.before) (looks_back promise.expectation) refl refl refl refl
        where
          go : (t n p b : Bool) → tells_once promise.scope ≡ t → has_now promise.scope ≡ n → is_some prior.before ≡ p → looks_back promise.expectation ≡ b → (has_reason f && ((not t || n) || false)) ≡ false
          go true false p b u v w r = and_false (has_reason f)
          go true true false true u v w r = ap (λ b. b && true) (none_there f.reasons (back prior.before refl w r (reasons_there None true e f.reasons x.are)))
          go true true false false u v w r = absurd (true≢false (sym (λ i. v i && (w i || not (r i))) ∙ unasked))
          go true true true b u v w r = absurd (true≢false (sym (λ i. v i && (w i || not (looks_back promise.expectation))) ∙ unasked))
          go false n p b u v w r = absurd (true≢false (sym e ∙ (λ i. (u i && true) || unasked i)))

      uncounted : (place : Option Event) → IsFoundAt net o prior events line place f → asks_at (is_some prior.before) promise place ≡ false → (has_reason f && ((not (tells_once promise.scope) || has_now promise.scope) || not (is_now place))) ≡ false
      uncounted place x unasked = go (looks_at (is_some prior.before) promise place) refl
        where
          at : (place : Option Event) → IsFoundAt net o prior events line place f → asks_at (is_some prior.before) promise place ≡ false → looks_at (is_some prior.before) promise place ≡ true
              → (has_reason f && ((not (tells_once promise.scope) || has_now promise.scope) || not (is_now place))) ≡ false
          at None x unasked e = looked_now x e unasked
          at (Some event) x unasked e = absurd (true≢false (sym e ∙ (λ i. and_false (tells_once promise.scope) i || unasked i)))

          go : (b : Bool) → looks_at (is_some prior.before) promise place ≡ b → (has_reason f && ((not (tells_once promise.scope) || has_now promise.scope) || not (is_now place))) ≡ false
          go true e = at place x unasked e
          go false e = first_false (has_reason f) ((not (tells_once promise.scope) || has_now promise.scope) || not (is_now place)) (unlooked place x e)

    module _ (found : List Found) (x : AreFound net o prior events line found) where
      any_is : list_any (is_broken_by promise.scope) found ≡ list_any (is_broken_by promise.scope) x.all
      any_is = ap (list_any (is_broken_by promise.scope)) x.are
          ∙ any_kept has_reason (is_broken_by promise.scope) (λ f e. first_false (has_reason f) ((not (tells_once promise.scope) || has_now promise.scope) || not (is_now f.place)) e) x.all

      holds_at : list_any (is_broken_by promise.scope) found ≡ false → (place : Option Event) → Contains (places events) place → asks_at (is_some prior.before) promise place ≡ true → HoldsAt prior place promise.expectation
      holds_at e place h asked =
          let r = zip_at (IsFoundAt net o prior events line) (places events) x.all x.each place h in
          let f = r.0 in
          let unbroken : is_broken_by promise.scope f ≡ false = none_has (is_broken_by promise.scope) x.all (sym any_is ∙ e) f r.1 in
          let counts : ((not (tells_once promise.scope) || has_now promise.scope) || not (is_now f.place)) ≡ true =
          ap (λ now. (not (tells_once promise.scope) || has_now promise.scope) || not now) (ap is_now r.2.at ∙ now_of place) ∙ asked_counts place asked in
          let none : f.reasons ≡ [] = no_more f.reasons (first_not (has_reason f) ((not (tells_once promise.scope) || has_now promise.scope) || not (is_now f.place)) unbroken counts) in
          (holds_where place asked f r.2).0 none

      kept : list_any (is_broken_by promise.scope) found ≡ false → IsKept net o prior events promise
      kept e = record {
        now = λ asked. holds_at e None (here None (map Some events)) asked;
        failed = λ event h asked. holds_at e (Some event) (there None (Some event) (map Some events) (in_map Some events event h)) asked;
      }

      asked_holds : IsKept net o prior events promise → (place : Option Event) → Contains (places events) place → asks_at (is_some prior.before) promise place ≡ true → HoldsAt prior place promise.expectation
      asked_holds keeps None h asked = keeps.now asked
      asked_holds keeps (Some event) h asked = keeps.failed event (of_place events event h) asked

      unbroken_at : IsKept net o prior events promise → (f : Found) → Contains x.all f → is_broken_by promise.scope f ≡ false
      unbroken_at keeps f h =
          let r = at_zip (IsFoundAt net o prior events line) (places events) x.all x.each f h in
          ap (λ now. has_reason f && ((not (tells_once promise.scope) || has_now promise.scope) || not now)) (ap is_now r.2.at ∙ now_of r.0) ∙ go r.0 r.1 r.2 (asks_at (is_some prior.before) promise r.0) refl
        where
          go : (place : Option Event) → Contains (places events) place → IsFoundAt net o prior events line place f → (b : Bool) → asks_at (is_some prior.before) promise place ≡ b
              → (has_reason f && ((not (tells_once promise.scope) || has_now promise.scope) || not (is_now place))) ≡ false
          go place there at true e =
              first_false (has_reason f) ((not (tells_once promise.scope) || has_now promise.scope) || not (is_now place)) (none_there f.reasons ((holds_where place e f at).1 (asked_holds keeps place there e)))
          go place there at false e = uncounted f place at e

      none_broken : IsKept net o prior events promise → list_any (is_broken_by promise.scope) found ≡ false
      none_broken keeps = any_is ∙ has_none (is_broken_by promise.scope) x.all (unbroken_at keeps)

  -- the promise of a line that is judged is that which is read
  read_judged : (read : Result Said Fault) (promise : Promise) → option_and_then (λ promise. cond (lacks_nothing net events promise) (Some promise) None) (promise_in read) ≡ Some promise → promise_in read ≡ Some promise
  read_judged (Err fault) promise e = absurd (cc)
  read_judged (Ok (says.Risk line)) promise e = absurd (cc)
  read_judged (Ok (says.Promise own)) promise e = go (lacks_nothing net events own) e
    where
      go : (whole : Bool) → cond whole (Some own) None ≡ Some promise → Some own ≡ Some promise
      go true e = e
      go false e = absurd (cc)

  module _ (line : PolicyLine) (rows : List Row) (x : IsVerdict net o events line rows) where
    rows_any : (promise : Promise) → promise_in line.read ≡ Some promise → has_any rows ≡ list_any (is_broken_by promise.scope) x.found
    rows_any promise e = ap has_any (x.are ∙ ap (λ said. option_map_or (λ promise. verdict_rows line.number promise x.found) said []) e) ∙ verdict_some line.number promise x.found

    pub told_where_unkept : IsToldWhereBroken net o events line rows
    told_where_unkept = go (judged net events line) refl
      where
        silent : judged net events line ≡ None → (f : Found) → Contains x.are_found.all f → has_reason f ≡ false
        silent e f h =
            let r = at_zip (IsFoundAt net o nothing_before events line) (places events) x.are_found.all x.are_found.each f h in
            let none : expected_at net events false line r.0 ≡ None = ap (option_and_then (λ promise. cond (looks_at false promise r.0) (Some promise.expectation) None)) e in
            none_there f.reasons (subst (λ expected. MatchOption expected (f.reasons ≡ []) (λ e. AreReasonsAt net o nothing_before r.0 e f.reasons)) none r.2.are)

        nothing_read : (read : Result Said Fault) → rows_of_read line.number read [] ≡ []
        nothing_read (Err fault) = refl
        nothing_read (Ok (says.Risk line)) = refl
        nothing_read (Ok (says.Promise promise)) = no_more (verdict_rows line.number promise []) (verdict_some line.number promise [])

        go : (promise : Option Promise) → judged net events line ≡ promise → MatchOption promise (rows ≡ []) (λ promise. (rows ≡ []) ↔ IsKept net o nothing_before events promise)
        go None e = x.are ∙ ap (rows_of_read line.number line.read) (x.are_found.are ∙ filter_none has_reason x.are_found.all (silent e)) ∙ nothing_read line.read
        go (Some promise) e =
            let read = read_judged line.read promise e in (
              λ none. kept nothing_before line promise e x.found x.are_found (sym (rows_any promise read) ∙ none_there rows none),
              λ keeps. no_more rows (rows_any promise read ∙ none_broken nothing_before line promise e x.found x.are_found keeps),
            )

  -- ---- a line in one of several networks
  module _ (prior : Prior) (line : PolicyLine) (rows : List Row) (x : IsLineTold net o prior events line rows) where
    -- one that is judged lacks nothing, and its rows are those of its promise
    lacks_none : (n : ℕ) (read : Result Said Fault) (promise : Promise) → option_and_then (λ promise. cond (lacks_nothing net events promise) (Some promise) None) (promise_in read) ≡ Some promise → missing_rows n (lacked net events read) ≡ []
    lacks_none n (Err fault) promise e = refl
    lacks_none n (Ok (says.Risk line)) promise e = absurd (cc)
    lacks_none n (Ok (says.Promise own)) promise e = by (missing net events own) e
      where
        by : (what : Option Missing) → cond (is_none what) (Some own) None ≡ Some promise → missing_rows n what ≡ []
        by None e = refl
        by (Some what) e = absurd (cc)

    told_any : (promise : Promise) → judged net events line ≡ Some promise → has_any rows ≡ list_any (is_broken_by promise.scope) x.found
    told_any promise e =
        ap has_any (x.are ∙ (λ i. lacks_none line.number line.read promise e i ++ option_map_or (λ promise. unkept_rows line.number promise x.found) (read_judged line.read promise e i) [])) ∙ unkept_some line.number promise x.found

    -- one that isn't judged has no reasons
    unjudged : judged net events line ≡ None → x.found ≡ []
    unjudged e = x.are_found.are ∙ filter_none has_reason x.are_found.all none
      where
        none : (f : Found) → Contains x.are_found.all f → has_reason f ≡ false
        none f h =
            let r = at_zip (IsFoundAt net o prior events line) (places events) x.are_found.all x.are_found.each f h in
            let expected : expected_at net events (is_some prior.before) line r.0 ≡ None = ap (option_and_then (λ promise. cond (looks_at (is_some prior.before) promise r.0) (Some promise.expectation) None)) e in
            none_there f.reasons (subst (λ expected. MatchOption expected (f.reasons ≡ []) (λ e. AreReasonsAt net o prior r.0 e f.reasons)) expected r.2.are)

    pub line_where_unkept : IsToldWhereUnkept net o prior events line rows
    line_where_unkept = go (judged net events line) refl
      where
        go : (promise : Option Promise) → judged net events line ≡ promise → MatchOption promise (rows ≡ lacking_rows net events line) (λ promise. (rows ≡ []) ↔ IsKept net o prior events promise)
        go None e = x.are ∙ ap (λ found. lacking_rows net events line ++ unkept_by line.number line.read found) (unjudged e) ∙ ap (λ more. lacking_rows net events line ++ more) (nothing_unkept line.number line.read) ∙ append-nil (lacking_rows net events line)
        go (Some promise) e = (
          λ none. kept prior line promise e x.found x.are_found (sym (told_any promise e) ∙ none_there rows none),
          λ keeps. no_more rows (told_any promise e ∙ none_broken prior line promise e x.found x.are_found keeps),
        )
