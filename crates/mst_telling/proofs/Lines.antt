-- What is kept of lines that were judged is what is told of them.
use Rattle.std.proofs.Common.{◌≡◌, ◌∙◌, ℕ, ◌+◌, ◌<◌, ◌≤◌, ◌||◌, zero, suc, Bool, true, false, cond, List, [], ◌∷◌, ◌++◌, length, map, take, get_or, append_assoc, append-nil, Option, Some, None, is_some, is_none, Result, Ok, Err, refl, sym, ap, subst, arith}
use Rattle.std.specs.Prelude.{MatchBool, MatchOption}
use Rattle.std.specs.List.{AllZip, count_by, filter, flat_map}
use Rattle.std.proofs.lemmas.List.{length-take, take_more}
use Rattle.std.specs.Option.{option_and_then, option_map_or}
use Rattle.mst_lang.specs.declared.line.Fault.{Fault}
use Rattle.mst_policy.specs.declared.expectation.Expectation.{Expectation}
use Rattle.mst_policy.specs.declared.expectation.Promise.{Promise}
use Rattle.mst_policy.specs.Lines.{promise_in}
use Rattle.mst_policy.specs.declared.policy.PolicyLine.{PolicyLine}
use Rattle.mst_policy.specs.declared.risk.Said.{Said}
use Rattle.mst_policy.specs.declared.risk.Said.TheVariants as says
use Rattle.mst_rows.specs.Cells.{PromiseSaid}
use Rattle.mst_rows.specs.Rows.{Row}
use Rattle.mst_tables.specs.Tables.{Net}
use Rattle.mst_roles.specs.forest.Outcome.{Outcome}
use Rattle.mst_reasons.specs.sweep.Failures.{Event}
use Rattle.mst_reasons.specs.Judged.{asks_at, places}
use Rattle.mst_reasons.specs.Missing.{missing}
use Rattle.mst_reasons.specs.Named.{Prior, nothing_before}
use Rattle.mst_reasons.specs.Placed.{AreReasonsAt}
use Rattle.mst_reasons.specs.Risks.{events as events_of}
use Rattle.mst_reasons.specs.declared.missing.Missing.{Missing}
use Rattle.mst_reasons.specs.declared.reason.Reason.{Reason}
use Rattle.mst_telling.specs.Judged.{AreLinesJudged, IsKeptOf, NoneIsKeptOf, StandsAt, change_at, count_by_read, each_from, line_found, line_lacks, line_rows, network_counts, refused_at, refused_by, told_in, verdicts_by}
use Rattle.mst_telling.specs.Lines.{AreLinesTold, IsLineTold, IsToldThere, unkept_by}
use Rattle.mst_telling.specs.Steps.{Change, changes}
use Rattle.mst_telling.specs.Told.{AreFoundIn, AreLineReasons, Found, IsFoundAt, cause_at, expected_at, has_reason, is_due, is_judged_at, judged, lacked, lacks_nothing, looks_at, missing_rows, unread_by}
use Rattle.mst_telling.specs.Verified.{IsVerdict, joined, network_count, promise_of, promises_of, refused_rows, rows_of_read}
use Rattle.mst_telling.proofs.GoesOn.{one_if}
use Rattle.mst_telling.proofs.Only.{nothing_unkept}
use Rattle.mst_graph.specs.Lists.{has_any}
use Rattle.mst_telling.specs.declared.judgement.Judgement.{Judgement}

-- ---- lists by places
zip_from : {X A : Type 0} (R : X → A → Type 0) (f : ℕ → X → A) (k : ℕ) (xs : List X) → ((n : ℕ) (x : X) → n < length xs → get_or xs n x ≡ x → R x (f (k + n) x)) → AllZip R xs (each_from f k xs)
zip_from R f k [] h = tt
zip_from R f k (x ∷ xs) h =
    let first : k + 0 ≡ k = omega arith in (
      subst (λ n. R x (f n x)) first (h 0 x (omega arith) refl),
      zip_from R f (k + 1) xs
          (λ n y below is.
          let on : k + suc n ≡ (k + 1) + n = omega arith in
          subst (λ m. R y (f m y)) on (h (suc n) y (omega (arith, below)) is)),
    )

pub zip_each : {X A : Type 0} (R : X → A → Type 0) (f : ℕ → X → A) (xs : List X) → ((n : ℕ) (x : X) → n < length xs → get_or xs n x ≡ x → R x (f n x)) → AllZip R xs (each_from f 0 xs)
zip_each R f xs h = zip_from R f 0 xs (λ n x below is. let e : n ≡ 0 + n = omega arith in subst (λ m. R x (f m x)) e (h n x below is))

same_from : {X A : Type 0} (f : ℕ → X → A) (g : X → A) (xs ys : List X) (zs : List A) → AllZip (λ x z. z ≡ g x) xs zs → zs ≡ map g xs
same_from f g [] ys [] h = refl
same_from f g [] ys (z ∷ zs) h = absurd h
same_from f g (x ∷ xs) ys [] h = absurd h
same_from f g (x ∷ xs) ys (z ∷ zs) h = λ i. h.0 i ∷ same_from f g xs ys zs h.1 i

pub each_same : {X A : Type 0} (f : ℕ → X → A) (g : X → A) (xs : List X) → ((n : ℕ) (x : X) → n < length xs → get_or xs n x ≡ x → f n x ≡ g x) → each_from f 0 xs ≡ map g xs
each_same f g xs h = same_from f g xs xs (each_from f 0 xs) (zip_each (λ x z. z ≡ g x) f xs h)

pub map_each : {X A B : Type 0} (g : A → B) (f : ℕ → X → A) (k : ℕ) (xs : List X) → map g (each_from f k xs) ≡ each_from (λ n x. g (f n x)) k xs
map_each g f k [] = refl
map_each {X} {A} {B} g f k (x ∷ xs) = ap (λ (l : List B). g (f k x) ∷ l) (map_each g f (k + 1) xs)

pub joined_mapped : {X : Type 0} (g : X → List Row) (xs : List X) → joined (map g xs) ≡ flat_map g xs
joined_mapped g [] = refl
joined_mapped g (x ∷ xs) = ap (λ (l : List Row). g x ++ l) (joined_mapped g xs)

changes_from : (before now : Judgement) (k : ℕ) (lines : List PolicyLine) → changes lines (each_from (λ n line. line_rows n line before) k lines) (each_from (λ n line. line_rows n line now) k lines) ≡ each_from (λ n line. change_at n line before now) k lines
changes_from before now k [] = refl
changes_from before now k (line ∷ lines) = ap (λ (l : List Change). change_at k line before now ∷ l) (changes_from before now (k + 1) lines)

pub changes_at : (before now : Judgement) (lines : List PolicyLine) → changes lines (told_in lines before) (told_in lines now) ≡ each_from (λ n line. change_at n line before now) 0 lines
changes_at before now lines = changes_from before now 0 lines

-- ---- promises
promises_on : (lines : List PolicyLine) (counts : List ℕ) (flags : List Bool) (line : PolicyLine) (count : ℕ) (flag : Bool) → length counts ≡ length lines → length flags ≡ length lines
    → promises_of (lines ++ line ∷ []) (counts ++ count ∷ []) (flags ++ flag ∷ []) ≡ promises_of lines counts flags ++ promise_of line count flag
promises_on [] [] [] line count flag a b = append-nil (promise_of line count flag)
promises_on [] [] (f ∷ flags) line count flag a b = absurd (omega (arith, b))
promises_on [] (n ∷ counts) flags line count flag a b = absurd (omega (arith, a))
promises_on (l ∷ lines) [] flags line count flag a b = absurd (omega (arith, a))
promises_on (l ∷ lines) (n ∷ counts) [] line count flag a b = absurd (omega (arith, b))
promises_on (l ∷ lines) (n ∷ counts) (f ∷ flags) line count flag a b =
    ap (λ (more : List PromiseSaid). promise_of l n f ++ more) (promises_on lines counts flags line count flag (omega (arith, a)) (omega (arith, b)))
    ∙ sym (append_assoc (promise_of l n f) (promises_of lines counts flags) (promise_of line count flag))

pub promises_more : (lines : List PolicyLine) (counts : List ℕ) (flags : List Bool) (n : ℕ) (line : PolicyLine) → n < length lines → line ≡ get_or lines n line → length counts ≡ length lines → length flags ≡ length lines
    → promises_of (take (n + 1) lines) (take (n + 1) counts) (take (n + 1) flags) ≡ promises_of (take n lines) (take n counts) (take n flags) ++ promise_of line (get_or counts n 0) (get_or flags n false)
promises_more lines counts flags n line below is a b =
    let first = take_more lines n line below ∙ ap (λ z. take n lines ++ z ∷ []) (sym is) in
    let second = take_more counts n 0 (omega (arith, below, a)) in
    let third = take_more flags n false (omega (arith, below, b)) in
    (λ i. promises_of (first i) (second i) (third i))
    ∙ promises_on (take n lines) (take n counts) (take n flags) line (get_or counts n 0) (get_or flags n false) (omega (arith, a, length-take n counts, length-take n lines)) (omega (arith, b, length-take n flags, length-take n lines))

-- ---- a line that is refused has one row
pub refused_one : (n : ℕ) (read : Result Said Fault) (what : Option Missing) → length (refused_at n read what) ≡ one_if (has_any (refused_at n read what))
refused_one n (Err fault) what = refl
refused_one n (Ok said) None = refl
refused_one n (Ok said) (Some what) = refl

pub unread_one : (n : ℕ) (read : Result Said Fault) → length (unread_by n read) ≡ one_if (has_any (unread_by n read))
unread_one n (Err fault) = refl
unread_one n (Ok said) = refl

-- ---- behind steps
module _ (net : Net) (o : Outcome) (prior : Prior) (is_last : Bool) (judgement : Judgement) where
  line_told : (events : List Event) (n : ℕ) (line : PolicyLine) (due : Bool) → MatchBool due (IsKeptOf net o prior events n line judgement) (NoneIsKeptOf n judgement)
      → MatchBool due (IsLineTold net o prior events line (line_rows n line judgement)) (line_rows n line judgement ≡ [])
  line_told events n line true k = record {
    found = line_found n judgement.found.items;
    are_found = k.found;
    are = ap (λ what. missing_rows line.number what ++ unkept_by line.number line.read (line_found n judgement.found.items)) k.lacks;
  }
  line_told events n line false k = (λ i. missing_rows line.number (k.lacks i) ++ unkept_by line.number line.read (k.found i)) ∙ nothing_unkept line.number line.read

  pub told_there : (lines : List PolicyLine) → AreLinesJudged net o prior is_last lines judgement → AreLinesTold net o prior is_last lines (told_in lines judgement)
  told_there lines are =
      zip_each (IsToldThere is_last net o prior (events_of net lines)) (λ n line. line_rows n line judgement) lines
      (λ n line below is. line_told (events_of net lines) n line (is_judged_at is_last line) (are n line (record { below = below; is = is })))

-- ---- in a network
module _ (net : Net) (o : Outcome) (prior : Prior) (events : List Event) (line : PolicyLine) where
  abbrev nothing : List Reason
  nothing = []

  abbrev no_found : List Found
  no_found = []

  no_reasons : judged net events line ≡ None → (place : Option Event) → AreLineReasons net o prior events line place nothing
  no_reasons e place =
      let none : expected_at net events (is_some prior.before) line place ≡ None = ap (option_and_then (λ promise. cond (looks_at (is_some prior.before) promise place) (Some promise.expectation) None)) e in
      let same : nothing ≡ nothing = refl in
      subst (λ (expected : Option Expectation). MatchOption expected (nothing ≡ nothing) (λ expectation. AreReasonsAt net o prior place expectation nothing)) (sym none) same

  abbrev silent : List (Option Event) → List Found
  silent some = map (λ place. record { place = cause_at place; reasons = nothing }) some

  each_silent : judged net events line ≡ None → (some : List (Option Event)) → AllZip (IsFoundAt net o prior events line) some (silent some)
  each_silent e [] = tt
  each_silent e (place ∷ some) = (record { at = refl; are = no_reasons e place }, each_silent e some)

  none_silent : (some : List (Option Event)) → no_found ≡ filter has_reason (silent some)
  none_silent [] = refl
  none_silent (place ∷ some) = none_silent some

  -- a line that isn't judged has nothing that is found
  pub unjudged : judged net events line ≡ None → (some : List (Option Event)) → AreFoundIn net o prior events line some no_found
  unjudged e some = record { all = silent some; each = each_silent e some; are = none_silent some }

module _ (net : Net) (o : Outcome) (judgement : Judgement) where
  module _ (events : List Event) where
    abbrev IsThere : ℕ → PolicyLine → Result Said Fault → Type 0
    IsThere n line read = MatchBool (is_due true read) (IsKeptOf net o nothing_before events n line judgement) (NoneIsKeptOf n judgement)

    -- the promise of a line, if it is judged
    abbrev judged_of : Result Said Fault → Option Promise
    judged_of read = option_and_then (λ promise. cond (lacks_nothing net events promise) (Some promise) None) (promise_in read)

    line_verdict : (n : ℕ) (line : PolicyLine) (read : Result Said Fault) → line.read ≡ read → IsThere n line read → IsVerdict net o events line (rows_of_read line.number line.read (line_found n judgement.found.items))
    line_verdict n line (Ok (says.Risk risk)) e k = record { found = line_found n judgement.found.items; are_found = k.found; are = refl }
    line_verdict n line (Ok (says.Promise promise)) e k = record { found = line_found n judgement.found.items; are_found = k.found; are = refl }
    line_verdict n line (Err fault) e k = record {
      found = [];
      are_found = unjudged net o nothing_before events line (ap judged_of e) (places events);
      are = ap (λ read. rows_of_read line.number read (line_found n judgement.found.items)) e ∙ ap (λ read. rows_of_read line.number read []) (sym e);
    }

    -- what a line lacks
    line_lacked : (n : ℕ) (line : PolicyLine) (read : Result Said Fault) → line.read ≡ read → IsThere n line read → line_lacks n judgement ≡ lacked net events line.read
    line_lacked n line (Ok (says.Risk risk)) e k = k.lacks
    line_lacked n line (Ok (says.Promise promise)) e k = k.lacks
    line_lacked n line (Err fault) e k = k.lacks ∙ ap (lacked net events) (sym e)

    line_refused : (n : ℕ) (read : Result Said Fault) (what : Option Missing) → what ≡ lacked net events read → refused_at n read what ≡ unread_by n read ++ missing_rows n (lacked net events read)
    line_refused n (Err fault) what e = refl
    line_refused n (Ok said) what e = ap (missing_rows n) e

    -- in how many networks it is judged
    counted_by : (read : Result Said Fault) (what : Option Missing) → what ≡ lacked net events read
        → count_by_read read (is_none what) events ≡ option_map_or (λ promise. count_by (asks_at false promise) (places events)) (judged_of read) 0
    counted_by (Err fault) what e = refl
    counted_by (Ok (says.Risk line)) what e = refl
    counted_by (Ok (says.Promise promise)) what e = ap (λ w. count_by_read (Ok (says.Promise promise)) (is_none w) events) e ∙ go (missing net events promise)
      where
        go : (w : Option Missing) → count_by_read (Ok (says.Promise promise)) (is_none w) events ≡ option_map_or (λ promise. count_by (asks_at false promise) (places events)) (cond (is_none w) (Some promise) None) 0
        go None = refl
        go (Some w) = refl

  pub verdicts_there : (lines : List PolicyLine) → AreLinesJudged net o nothing_before true lines judgement → AllZip (IsVerdict net o (events_of net lines)) lines (verdicts_by lines judgement)
  verdicts_there lines are =
      zip_each (IsVerdict net o (events_of net lines)) (λ n line. rows_of_read line.number line.read (line_found n judgement.found.items)) lines
      (λ n line below is. line_verdict (events_of net lines) n line line.read refl (are n line (record { below = below; is = is })))

  pub refused_there : (lines : List PolicyLine) → AreLinesJudged net o nothing_before true lines judgement → refused_by lines judgement ≡ flat_map (refused_rows net (events_of net lines)) lines
  refused_there lines are =
      let events = events_of net lines in
      ap joined (each_same (λ n line. refused_at line.number line.read (line_lacks n judgement)) (refused_rows net events) lines
      (λ n line below is. line_refused events line.number line.read (line_lacks n judgement) (line_lacked events n line line.read refl (are n line (record { below = below; is = is }))))) ∙ joined_mapped (refused_rows net events) lines

  pub counts_there : (lines : List PolicyLine) (all : List Event) → all ≡ events_of net lines → AreLinesJudged net o nothing_before true lines judgement → network_counts lines all judgement ≡ map (network_count net (events_of net lines)) lines
  counts_there lines all e are =
      let events = events_of net lines in
      ap (λ all. network_counts lines all judgement) e
      ∙ each_same (λ n line. count_by_read line.read (is_none (line_lacks n judgement)) events) (network_count net events) lines
      (λ n line below is. counted_by events line.read (line_lacks n judgement) (line_lacked events n line line.read refl (are n line (record { below = below; is = is }))))
