-- Places where a line has no reason tell nothing of it, and when something is told of a line.
use Rattle.std.proofs.Common.{◌≡◌, ◌∙◌, ℕ, suc, ◌+◌, ◌&&◌, ◌||◌, Bool, true, false, true≢false, cond, not, List, [], ◌∷◌, ◌++◌, length, map, Option, Some, None, Result, Ok, Err, refl, sym, ap, subst, append_assoc, arith}
use Rattle.std.specs.Prelude.{◌==◌}
use Rattle.std.specs.List.{count_by, filter, flat_map, list_any}
use Rattle.std.proofs.lemmas.List.{map-append}
use Rattle.std.proofs.lemmas.List.Elements.{filter-append}
use Rattle.std.proofs.lemmas.List.Folds.{list_any-append}
use Rattle.std.proofs.lemmas.List.Sums.{sum_by-cons}
use Rattle.mst_lang.specs.declared.line.Fault.{Fault}
use Rattle.mst_policy.specs.declared.expectation.Promise.{Promise}
use Rattle.mst_policy.specs.declared.risk.Said.{Said}
use Rattle.mst_policy.specs.declared.risk.Said.TheVariants as says
use Rattle.mst_policy.specs.declared.expectation.Scope.{Scope}
use Rattle.mst_rows.specs.Lines.{row_line}
use Rattle.mst_rows.specs.Rows.{Row}
use Rattle.mst_graph.specs.Lists.{has_any}
use Rattle.mst_reasons.specs.sweep.declared.event.Cause.{Cause}
use Rattle.mst_reasons.specs.Judged.{has_now}
use Rattle.mst_reasons.specs.declared.reason.Reason.{Reason}
use Rattle.mst_telling.specs.Judged.{found_at}
use Rattle.mst_telling.specs.Once.{folded_rows, is_left_out, left_out, names_it, once_rows, others, rows_now, same_rows, told_now}
use Rattle.mst_telling.specs.Rows.{reason_row, row_at, same_row}
use Rattle.mst_telling.specs.Texts.{is_told, news, same_text}
use Rattle.mst_telling.specs.Told.{Found, found_rows, has_reason, is_now, reason_rows, tells_once}
use Rattle.mst_telling.specs.Verified.{is_broken_by, verdict_rows}
use Rattle.mst_telling.specs.declared.judgement.Finding.{Finding}
use Rattle.mst_telling.specs.Lines.{unkept_by, unkept_rows}
use Rattle.mst_telling.proofs.GoesOn.{GoesOn, one_if, positive, then_filtered, then_mapped}
use Rattle.mst_telling.proofs.TextLines.{lines_symm}

-- ---- lists
pub no_more : {B : Type 0} (ys : List B) → has_any ys ≡ false → ys ≡ []
no_more [] e = refl
no_more (y ∷ ys) e = absurd (true≢false e)

pub any_joined : {X : Type 0} (xs ys : List X) → has_any (xs ++ ys) ≡ (has_any xs || has_any ys)
any_joined [] ys = refl
any_joined (x ∷ xs) ys = refl

pub any_mapped : {X Y : Type 0} (f : X → Y) (xs : List X) → has_any (map f xs) ≡ has_any xs
any_mapped f [] = refl
any_mapped f (x ∷ xs) = refl

pub any_one : {X Y : Type 0} (f : X → Y) (test : X → Bool) (x : X) → test x ≡ has_any (map f (cond (test x) (x ∷ []) []))
any_one {X} {Y} f test x = go (test x)
  where
    go : (b : Bool) → b ≡ has_any (map f (cond b (x ∷ []) []))
    go true = refl
    go false = refl

pub any_flat : {X Y : Type 0} (f : X → List Y) (xs : List X) → has_any (flat_map f xs) ≡ list_any (λ x. has_any (f x)) xs
any_flat f [] = refl
any_flat f (x ∷ xs) = any_joined (f x) (flat_map f xs) ∙ ap (λ b. has_any (f x) || b) (any_flat f xs)

any_same : {X : Type 0} (test other : X → Bool) → ((x : X) → test x ≡ other x) → (xs : List X) → list_any test xs ≡ list_any other xs
any_same test other same [] = refl
any_same test other same (x ∷ xs) = λ i. same x i || any_same test other same xs i

or_mixed : (a b c d : Bool) → ((a || c) || (b || d)) ≡ ((a || b) || (c || d))
or_mixed true b c d = refl
or_mixed false true true d = refl
or_mixed false true false d = refl
or_mixed false false true d = refl
or_mixed false false false d = refl

any_either : {X : Type 0} (test other : X → Bool) (xs : List X) → (list_any test xs || list_any other xs) ≡ list_any (λ x. test x || other x) xs
any_either test other [] = refl
any_either test other (x ∷ xs) = or_mixed (test x) (other x) (list_any test xs) (list_any other xs) ∙ ap (λ b. (test x || other x) || b) (any_either test other xs)

-- rows that stand behind no step
pub plain : (rows : List Row) → map (row_at None) rows ≡ rows
plain [] = refl
plain (row ∷ rows) = ap (λ (l : List Row). row ∷ l) (plain rows)

-- ---- places with no reason
none_of : (f : Found) → has_reason f ≡ false → f.reasons ≡ []
none_of f e = no_more f.reasons e

only : {A : Type 0} (g : Found → List A) → ((f : Found) → has_reason f ≡ false → g f ≡ []) → (fs : List Found) → flat_map g (filter has_reason fs) ≡ flat_map g fs
only {A} g none [] = refl
only {A} g none (f ∷ fs) = go (only g none fs) (has_reason f) refl
  where
    go : flat_map g (filter has_reason fs) ≡ flat_map g fs → (b : Bool) → has_reason f ≡ b → flat_map g (cond b (f ∷ filter has_reason fs) (filter has_reason fs)) ≡ g f ++ flat_map g fs
    go rest true e = ap (λ (l : List A). g f ++ l) rest
    go rest false e = rest ∙ ap (λ (l : List A). l ++ flat_map g fs) (sym (none f e))

none_more : (m : ℕ) → m ≡ 0 + m
none_more m = omega arith

count_only : (test : Found → Bool) → ((f : Found) → has_reason f ≡ false → test f ≡ false) → (fs : List Found) → count_by test (filter has_reason fs) ≡ count_by test fs
count_only test none [] = refl
count_only test none (f ∷ fs) = go (count_only test none fs) (has_reason f) refl
  where
    go : count_by test (filter has_reason fs) ≡ count_by test fs → (b : Bool) → has_reason f ≡ b → count_by test (cond b (f ∷ filter has_reason fs) (filter has_reason fs)) ≡ count_by test (f ∷ fs)
    go rest true e = sum_by-cons (λ y. one_if (test y)) f (filter has_reason fs) ∙ ap (λ n. one_if (test f) + n) rest ∙ sym (sum_by-cons (λ y. one_if (test y)) f fs)
    go rest false e = rest ∙ none_more (count_by test fs) ∙ ap (λ b. one_if b + count_by test fs) (sym (none f e)) ∙ sym (sum_by-cons (λ y. one_if (test y)) f fs)

pub found_only : (n : ℕ) (fs : List Found) → found_rows n (filter has_reason fs) ≡ found_rows n fs
found_only n fs = only (λ f. reason_rows n f.place f.reasons) (λ f e. ap (reason_rows n f.place) (none_of f e)) fs

either_way : (b : Bool) (rows : List Row) → cond b rows rows ≡ rows
either_way true rows = refl
either_way false rows = refl

none_now : (n : ℕ) (f : Found) → has_reason f ≡ false → cond (is_now f.place) (reason_rows n None f.reasons) [] ≡ []
none_now n f e = ap (λ reasons. cond (is_now f.place) (reason_rows n None reasons) []) (none_of f e) ∙ either_way (is_now f.place) []

now_only : (n : ℕ) (fs : List Found) → rows_now n (filter has_reason fs) ≡ rows_now n fs
now_only n fs = only (λ f. cond (is_now f.place) (reason_rows n None f.reasons) []) (none_now n) fs

none_left : (n : ℕ) (scope : Scope) (nows : List Row) (f : Found) → has_reason f ≡ false → left_out n scope nows f ≡ []
none_left n scope nows f e = ap (λ reasons. reason_rows n None (filter (is_left_out n scope nows f.place) reasons)) (none_of f e)

none_others : (n : ℕ) (scope : Scope) (nows : List Row) (f : Found) → has_reason f ≡ false → others n scope nows f ≡ []
none_others n scope nows f e = ap (λ reasons. cond (is_now f.place) [] (reason_rows n f.place (filter (λ reason. not (is_left_out n scope nows f.place reason)) reasons))) (none_of f e) ∙ either_way (is_now f.place) []

once_only : (n : ℕ) (scope : Scope) (fs : List Found) → once_rows n scope (rows_now n (filter has_reason fs)) (filter has_reason fs) ≡ once_rows n scope (rows_now n fs) fs
once_only n scope fs =
    ap (λ nows. once_rows n scope nows (filter has_reason fs)) (now_only n fs)
    ∙ (λ i. told_now scope (rows_now n fs) (only (left_out n scope (rows_now n fs)) (none_left n scope (rows_now n fs)) fs i)
    ++ same_rows n (count_only (λ f. has_any (left_out n scope (rows_now n fs) f)) (λ f e. ap has_any (none_left n scope (rows_now n fs) f e)) fs i)
    ++ only (others n scope (rows_now n fs)) (none_others n scope (rows_now n fs)) fs i)

pub verdict_only : (n : ℕ) (promise : Promise) (fs : List Found) → verdict_rows n promise (filter has_reason fs) ≡ verdict_rows n promise fs
verdict_only n promise fs = λ i. cond (tells_once promise.scope) (once_only n promise.scope fs i) (found_only n fs i)

-- ---- whether something is told
and_true : (b : Bool) → b ≡ (b && true)
and_true true = refl
and_true false = refl

pub found_any : (n : ℕ) (fs : List Found) → has_any (found_rows n fs) ≡ list_any has_reason fs
found_any n fs = any_flat (λ f. reason_rows n f.place f.reasons) fs ∙ any_same (λ f. has_any (reason_rows n f.place f.reasons)) has_reason (λ f. any_mapped (reason_row n f.place) f.reasons) fs

plain_some : (n : ℕ) (fs : List Found) → has_any (found_rows n fs) ≡ list_any (λ f. has_reason f && true) fs
plain_some n fs =
    any_flat (λ f. reason_rows n f.place f.reasons) fs ∙ any_same (λ f. has_any (reason_rows n f.place f.reasons)) (λ f. has_reason f && true) (λ f. any_mapped (reason_row n f.place) f.reasons ∙ and_true (has_reason f)) fs

pub any_map : {X Y : Type 0} (test : Y → Bool) (f : X → Y) (xs : List X) → list_any test (map f xs) ≡ list_any (λ x. test (f x)) xs
any_map test f [] = refl
any_map test f (x ∷ xs) = ap (λ b. test (f x) || b) (any_map test f xs)

pub plain_any : (n k : ℕ) (findings : List Finding) → has_any (found_rows n (map (found_at k) findings)) ≡ list_any (λ f. has_any (found_at k f).reasons) findings
plain_any n k findings =
    any_flat (λ f. reason_rows n f.place f.reasons) (map (found_at k) findings) ∙ any_same (λ f. has_any (reason_rows n f.place f.reasons)) has_reason (λ f. any_mapped (reason_row n f.place) f.reasons) (map (found_at k) findings)
    ∙ any_map has_reason (found_at k) findings

-- of some things each passes, or doesn't
split_any : {X : Type 0} (test : X → Bool) (xs : List X) → (has_any (filter test xs) || has_any (filter (λ x. not (test x)) xs)) ≡ has_any xs
split_any test [] = refl
split_any {X} test (x ∷ xs) = go (test x)
  where
    or_true : (b : Bool) → (b || true) ≡ true
    or_true true = refl
    or_true false = refl

    go : (b : Bool) → (has_any (cond b (x ∷ filter test xs) (filter test xs)) || has_any (cond (not b) (x ∷ filter (λ y. not (test y)) xs) (filter (λ y. not (test y)) xs))) ≡ true
    go true = refl
    go false = or_true (has_any (filter test xs))

none_pass : {X : Type 0} (test : X → Bool) (xs : List X) → ((x : X) → test x ≡ false) → filter test xs ≡ []
none_pass test [] none = refl
none_pass {X} test (x ∷ xs) none = ap (λ b. cond b (x ∷ filter test xs) (filter test xs)) (none x) ∙ none_pass test xs none

module _ (n : ℕ) (scope : Scope) (nows : List Row) where
  -- an event has a reason that is left out, or another one
  abbrev tells : Found → Bool
  tells f = has_reason f && not (is_now f.place)

  at_cause : (cause : Cause) (reasons : List Reason) (f : Found) → f ≡ record { place = Some cause; reasons = reasons } → (has_any (left_out n scope nows f) || has_any (others n scope nows f)) ≡ (has_any reasons && true)
  at_cause cause reasons f is =
      let test : Reason → Bool = is_left_out n scope nows (Some cause) in
      ap (λ f. has_any (left_out n scope nows f) || has_any (others n scope nows f)) is
      ∙ (λ i. any_mapped (reason_row n None) (filter test reasons) i || any_mapped (reason_row n (Some cause)) (filter (λ r. not (test r)) reasons) i)
      ∙ split_any test reasons ∙ and_true (has_any reasons)

  one_tells : (f : Found) → (has_any (left_out n scope nows f) || has_any (others n scope nows f)) ≡ tells f
  one_tells f = go f.place refl
    where
      and_false : (b : Bool) → false ≡ (b && false)
      and_false true = refl
      and_false false = refl

      go : (place : Option Cause) → f.place ≡ place → (has_any (left_out n scope nows f) || has_any (others n scope nows f)) ≡ (has_reason f && not (is_now f.place))
      go None e =
          ap (λ place. has_any (reason_rows n None (filter (is_left_out n scope nows place) f.reasons)) || has_any (cond (is_now place) [] (reason_rows n place (filter (λ r. not (is_left_out n scope nows place r)) f.reasons)))) e
          ∙ ap (λ reasons. has_any (reason_rows n None reasons) || false) (none_pass (λ r. false) f.reasons (λ r. refl))
          ∙ and_false (has_reason f) ∙ ap (λ place. has_reason f && not (is_now place)) (sym e)
      go (Some cause) e =
          at_cause cause f.reasons f (λ i. record { place = e i; reasons = f.reasons }) ∙ ap (λ place. has_reason f && not (is_now place)) (sym e)

  counted_some : (test : Found → Bool) (fs : List Found) → has_any (same_rows n (count_by test fs)) ≡ list_any test fs
  counted_some test [] = refl
  counted_some test (f ∷ fs) = ap (λ m. has_any (same_rows n m)) (sum_by-cons (λ y. one_if (test y)) f fs) ∙ go (count_by test fs) (counted_some test fs) (test f)
    where
      some_more : (m : ℕ) → has_any (same_rows n (1 + m)) ≡ true
      some_more m = let e : 1 + m ≡ suc m = omega arith in ap (λ k. has_any (same_rows n k)) e ∙ ap (λ b. has_any (cond b [] (same_row n (suc m) ∷ []))) (positive m)

      go : (m : ℕ) → has_any (same_rows n m) ≡ list_any test fs → (b : Bool) → has_any (same_rows n (one_if b + m)) ≡ (b || list_any test fs)
      go m rest true = some_more m
      go m rest false = ap (λ k. has_any (same_rows n k)) (sym (none_more m)) ∙ rest

  abbrev some_left : List Found → Bool
  some_left fs = list_any (λ f. has_any (left_out n scope nows f)) fs

  abbrev some_other : List Found → Bool
  some_other fs = list_any (λ f. has_any (others n scope nows f)) fs

  failures_tell : (fs : List Found) → (some_left fs || some_other fs) ≡ list_any tells fs
  failures_tell fs = any_either (λ f. has_any (left_out n scope nows f)) (λ f. has_any (others n scope nows f)) fs ∙ any_same (λ f. has_any (left_out n scope nows f) || has_any (others n scope nows f)) tells one_tells fs

  -- what isn't left out anywhere isn't told of the network itself
  no_left : (left : List Row) → has_any left ≡ false → filter (is_told left) nows ≡ []
  no_left left e = ap (λ l. filter (is_told l) nows) (no_more left e) ∙ none_pass (is_told []) nows (λ row. refl)

  told_left : (fs : List Found) → (has_any (filter (is_told (flat_map (left_out n scope nows) fs)) nows) || some_left fs) ≡ some_left fs
  told_left fs = go (some_left fs) refl
    where
      left : List Row
      left = flat_map (left_out n scope nows) fs

      or_true : (b : Bool) → (b || true) ≡ true
      or_true true = refl
      or_true false = refl

      go : (b : Bool) → some_left fs ≡ b → (has_any (filter (is_told (flat_map (left_out n scope nows) fs)) nows) || b) ≡ b
      go true e = or_true (has_any (filter (is_told (flat_map (left_out n scope nows) fs)) nows))
      go false e = ap (λ rows. has_any rows || false) (no_left (flat_map (left_out n scope nows) fs) (any_flat (left_out n scope nows) fs ∙ e))

or_assoc : (a b c : Bool) → ((a || b) || c) ≡ (a || (b || c))
or_assoc true b c = refl
or_assoc false b c = refl

module _ (n : ℕ) (scope : Scope) (fs : List Found) where
  abbrev nows : List Row
  nows = rows_now n fs

  now_some : has_any nows ≡ list_any (λ f. has_reason f && is_now f.place) fs
  now_some = any_flat (λ f. cond (is_now f.place) (reason_rows n None f.reasons) []) fs ∙ any_same (λ f. has_any (cond (is_now f.place) (reason_rows n None f.reasons) [])) (λ f. has_reason f && is_now f.place) one fs
    where
      and_false : (b : Bool) → false ≡ (b && false)
      and_false true = refl
      and_false false = refl

      one : (f : Found) → has_any (cond (is_now f.place) (reason_rows n None f.reasons) []) ≡ (has_reason f && is_now f.place)
      one f = go (is_now f.place)
        where
          go : (b : Bool) → has_any (cond b (reason_rows n None f.reasons) []) ≡ (has_reason f && b)
          go true = any_mapped (reason_row n None) f.reasons ∙ and_true (has_reason f)
          go false = and_false (has_reason f)

  abbrev told : Bool → List Row
  told now = cond now nows (filter (is_told (flat_map (left_out n scope nows) fs)) nows)

  parts : (now : Bool) → has_any (told now ++ same_rows n (count_by (λ f. has_any (left_out n scope nows f)) fs) ++ flat_map (others n scope nows) fs)
      ≡ ((has_any (told now) || some_left n scope nows fs) || some_other n scope nows fs)
  parts now =
      any_joined (told now ++ same_rows n (count_by (λ f. has_any (left_out n scope nows f)) fs)) (flat_map (others n scope nows) fs)
      ∙ (λ i. any_joined (told now) (same_rows n (count_by (λ f. has_any (left_out n scope nows f)) fs)) i || any_flat (others n scope nows) fs i)
      ∙ ap (λ b. (has_any (told now) || b) || some_other n scope nows fs) (counted_some n scope nows (λ f. has_any (left_out n scope nows f)) fs)

  either : (a b : Bool) → ((a && b) || (a && not b)) ≡ (a && true)
  either true true = refl
  either true false = refl
  either false b = refl

  pub once_some : (now : Bool) → has_any (told now ++ same_rows n (count_by (λ f. has_any (left_out n scope nows f)) fs) ++ flat_map (others n scope nows) fs)
      ≡ list_any (λ f. has_reason f && ((false || now) || not (is_now f.place))) fs
  once_some true =
      parts true ∙ or_assoc (has_any nows) (some_left n scope nows fs) (some_other n scope nows fs) ∙ (λ i. now_some i || failures_tell n scope nows fs i)
      ∙ any_either (λ f. has_reason f && is_now f.place) (λ f. has_reason f && not (is_now f.place)) fs
      ∙ any_same (λ f. (has_reason f && is_now f.place) || (has_reason f && not (is_now f.place))) (λ f. has_reason f && true) (λ f. either (has_reason f) (is_now f.place)) fs
  once_some false = parts false ∙ ap (λ b. b || some_other n scope nows fs) (told_left n scope nows fs) ∙ failures_tell n scope nows fs

pub verdict_some : (n : ℕ) (promise : Promise) (fs : List Found) → has_any (verdict_rows n promise fs) ≡ list_any (is_broken_by promise.scope) fs
verdict_some n promise fs = go (tells_once promise.scope)
  where
    go : (once : Bool) → has_any (cond once (once_rows n promise.scope (rows_now n fs) fs) (found_rows n fs)) ≡ list_any (λ f. has_reason f && ((not once || has_now promise.scope) || not (is_now f.place))) fs
    go true = once_some n promise.scope fs (has_now promise.scope)
    go false = plain_some n fs

-- ---- without the row that counts
some_kept : {X : Type 0} (test : X → Bool) (xs : List X) → has_any (filter test xs) ≡ true → has_any xs ≡ true
some_kept test [] e = e
some_kept test (x ∷ xs) e = refl

-- a row that has its text in some rows, and whose text each row with it is told by others: one of these rows is told by them
found_among : (left rows : List Row) (l : Row) → ((row : Row) → same_text l row ≡ true → is_told left row ≡ true) → is_told rows l ≡ true → has_any (filter (is_told left) rows) ≡ true
found_among left [] l hit e = absurd (true≢false (sym e))
found_among left (row ∷ rows) l hit e = go (found_among left rows l hit) (same_text l row) refl e
  where
    either : has_any (filter (is_told left) rows) ≡ true → (b : Bool) → has_any (cond b (row ∷ (filter (is_told left) rows)) (filter (is_told left) rows)) ≡ true
    either h true = refl
    either h false = h

    go : (is_told rows l ≡ true → has_any (filter (is_told left) rows) ≡ true) → (b : Bool) → same_text l row ≡ b → (b || is_told rows l) ≡ true → has_any (cond (is_told left row) (row ∷ (filter (is_told left) rows)) (filter (is_told left) rows)) ≡ true
    go rest true k e = ap (λ b. has_any (cond b (row ∷ (filter (is_told left) rows)) (filter (is_told left) rows))) (hit row k)
    go rest false k e = either (rest e) (is_told left row)

first_told : (b c : Bool) → (not b || c) ≡ false → b ≡ true
first_told true c e = refl
first_told false c e = absurd (true≢false e)

module _ (n : ℕ) (scope : Scope) (nows : List Row) where
  abbrev is_untold : Row → Bool
  is_untold row = not (is_told nows row)

  -- what is left out is told of the network itself
  place_told : (place : Option Cause) (reasons : List Reason) → list_any is_untold (reason_rows n None (filter (is_left_out n scope nows place) reasons)) ≡ false
  place_told place [] = refl
  place_told None (reason ∷ reasons) = place_told None reasons
  place_told (Some cause) (reason ∷ reasons) = go (place_told (Some cause) reasons) (names_it scope cause) (is_told nows (reason_row n None reason)) refl
    where
      go : list_any is_untold (reason_rows n None (filter (is_left_out n scope nows (Some cause)) reasons)) ≡ false → (named told : Bool) → is_told nows (reason_row n None reason) ≡ told
          → list_any is_untold (reason_rows n None (cond (not named && told) (reason ∷ (filter (is_left_out n scope nows (Some cause)) reasons)) (filter (is_left_out n scope nows (Some cause)) reasons))) ≡ false
      go rest true told e = rest
      go rest false true e = ap (λ b. not b || list_any is_untold (reason_rows n None (filter (is_left_out n scope nows (Some cause)) reasons))) e ∙ rest
      go rest false false e = rest

  left_told : (fs : List Found) → list_any is_untold (flat_map (left_out n scope nows) fs) ≡ false
  left_told [] = refl
  left_told (f ∷ fs) = list_any-append is_untold (left_out n scope nows f) (flat_map (left_out n scope nows) fs) ∙ (λ i. place_told f.place f.reasons i || left_told fs i)

  -- so where something is left out, something is told of the network itself
  left_now : (left : List Row) → list_any is_untold left ≡ false → has_any left ≡ true → has_any (filter (is_told left) nows) ≡ true
  left_now [] e h = absurd (true≢false (sym h))
  left_now (l ∷ left) e h = found_among (l ∷ left) nows l (λ row k. ap (λ b. b || is_told left row) (lines_symm (row_line row) (row_line l) ∙ k)) (first_told (is_told nows l) (list_any is_untold left) e)

absorbed : (a b : Bool) → (b ≡ true → a ≡ true) → (a || b) ≡ a
absorbed true b h = refl
absorbed false true h = sym (h refl)
absorbed false false h = refl

module _ (n : ℕ) (scope : Scope) (fs : List Found) where
  abbrev those_now : List Row
  those_now = rows_now n fs

  abbrev all_left : List Row
  all_left = flat_map (left_out n scope those_now) fs

  abbrev now_told : Bool → List Row
  now_told now = cond now those_now (filter (is_told all_left) those_now)

  some_now : (now : Bool) → some_left n scope those_now fs ≡ true → has_any (now_told now) ≡ true
  some_now now e = go now (left_now n scope those_now all_left (left_told n scope those_now fs) (any_flat (left_out n scope those_now) fs ∙ e))
    where
      go : (now : Bool) → has_any (filter (is_told all_left) those_now) ≡ true → has_any (now_told now) ≡ true
      go true h = some_kept (is_told all_left) those_now h
      go false h = h

  folded_some : (now : Bool) → has_any (now_told now ++ flat_map (others n scope those_now) fs) ≡ list_any (λ f. has_reason f && ((false || now) || not (is_now f.place))) fs
  folded_some now =
      any_joined (now_told now) (flat_map (others n scope those_now) fs)
      ∙ (λ i. sym (absorbed (has_any (now_told now)) (some_left n scope those_now fs) (some_now now)) i || any_flat (others n scope those_now) fs i)
      ∙ sym (parts n scope fs now) ∙ once_some n scope fs now

pub unkept_some : (n : ℕ) (promise : Promise) (fs : List Found) → has_any (unkept_rows n promise fs) ≡ list_any (is_broken_by promise.scope) fs
unkept_some n promise fs = go (tells_once promise.scope)
  where
    go : (once : Bool) → has_any (cond once (folded_rows n promise.scope (rows_now n fs) fs) (found_rows n fs)) ≡ list_any (λ f. has_reason f && ((not once || has_now promise.scope) || not (is_now f.place))) fs
    go true = folded_some n promise.scope fs (has_now promise.scope)
    go false = plain_some n fs

folded_only : (n : ℕ) (scope : Scope) (fs : List Found) → folded_rows n scope (rows_now n (filter has_reason fs)) (filter has_reason fs) ≡ folded_rows n scope (rows_now n fs) fs
folded_only n scope fs =
    ap (λ nows. folded_rows n scope nows (filter has_reason fs)) (now_only n fs)
    ∙ (λ i. told_now scope (rows_now n fs) (only (left_out n scope (rows_now n fs)) (none_left n scope (rows_now n fs)) fs i)
    ++ only (others n scope (rows_now n fs)) (none_others n scope (rows_now n fs)) fs i)

pub unkept_only : (n : ℕ) (promise : Promise) (fs : List Found) → unkept_rows n promise (filter has_reason fs) ≡ unkept_rows n promise fs
unkept_only n promise fs = λ i. cond (tells_once promise.scope) (folded_only n promise.scope fs i) (found_only n fs i)

abbrev no_row : List Row
no_row = []

-- of nothing that was found there are no rows
pub nothing_unkept : (n : ℕ) (read : Result Said Fault) → unkept_by n read [] ≡ []
nothing_unkept n (Err fault) = refl
nothing_unkept n (Ok (says.Risk line)) = refl
nothing_unkept n (Ok (says.Promise promise)) = go (tells_once promise.scope) (has_now promise.scope)
  where
    go : (once now : Bool) → cond once (cond now no_row no_row ++ no_row) no_row ≡ no_row
    go true true = refl
    go true false = refl
    go false now = refl

-- ---- what the network itself gives, place by place
pub then_told : {X : Type 0} {F : List X → List Row} {G : ℕ → X → List Row} (scope : Scope) (those : List Row) → GoesOn F G → GoesOn (λ xs. told_now scope (F xs) those) (λ n x. told_now scope (G n x) those)
then_told {X} {F} {G} scope those h = record { on = λ xs x. ap (λ rows. told_now scope rows those) (h.on xs x) ∙ go (F xs) (G (length xs) x) (has_now scope) }
  where
    go : (rows more : List Row) (b : Bool) → cond b (rows ++ more) (filter (is_told those) (rows ++ more)) ≡ cond b rows (filter (is_told those) rows) ++ cond b more (filter (is_told those) more)
    go rows more true = refl
    go rows more false = filter-append (is_told those) rows more

-- and those of it that are new, behind a step
pub then_new_told : {X : Type 0} {F : List X → List Row} {G : ℕ → X → List Row} (step : Option ℕ) (before : List Row) (scope : Scope) (those : List Row) → GoesOn F G
    → GoesOn (λ xs. map (row_at step) (news before (told_now scope (F xs) those))) (λ n x. map (row_at step) (news before (told_now scope (G n x) those)))
then_new_told step before scope those h = then_mapped (row_at step) (then_filtered (λ row. not (is_told before row)) (then_told scope those h))

new_parts : (step : Option ℕ) (before xs ys : List Row) → map (row_at step) (news before xs) ++ map (row_at step) (news before ys) ≡ map (row_at step) (news before (xs ++ ys))
new_parts step before xs ys = sym (ap (map (row_at step)) (filter-append (λ row. not (is_told before row)) xs ys) ∙ map-append (row_at step) (news before xs) (news before ys))

-- what is new of two lists that were put one after another
pub put_new : (grown : List Row → Type 0) (step : Option ℕ) (before rows xs ys : List Row) → grown ((rows ++ map (row_at step) (news before xs)) ++ map (row_at step) (news before ys)) → grown (rows ++ map (row_at step) (news before (xs ++ ys)))
put_new grown step before rows xs ys h =
    subst grown (append_assoc rows (map (row_at step) (news before xs)) (map (row_at step) (news before ys)) ∙ ap (λ (l : List Row). rows ++ l) (new_parts step before xs ys)) h

-- where nothing was told all rows are new
pub all_new : (rows : List Row) → map (row_at None) (news [] rows) ≡ rows
all_new [] = refl
all_new (row ∷ rows) = ap (λ (l : List Row). row ∷ l) (all_new rows)
