-- The rows of a line lose no reason: of those that a failure leaves out, the network itself is told.
use Rattle.std.proofs.Common.{◌≡◌, ◌⊎◌, inl, inr, ℕ, ◌&&◌, ◌||◌, Bool, true, false, true≢false, cond, not, List, [], ◌∷◌, ◌++◌, map, Option, Some, None, refl, sym, ap, subst, ◌∙◌}
use Rattle.std.specs.List.{Contains, count_by, filter, flat_map, list_any}
use Rattle.std.proofs.lemmas.List.Elements.{Contains-append_left, Contains-append_right}
use Rattle.mst_policy.specs.declared.expectation.Promise.{Promise}
use Rattle.mst_policy.specs.declared.expectation.Scope.{Scope}
use Rattle.mst_rows.specs.Lines.{row_line}
use Rattle.mst_rows.specs.Rows.{Row}
use Rattle.mst_graph.specs.Lists.{has_any}
use Rattle.mst_graph.proofs.Members.{cases, in_filter, in_map, in_none, passing}
use Rattle.mst_reasons.specs.sweep.declared.event.Cause.{Cause}
use Rattle.mst_reasons.specs.Judged.{has_now}
use Rattle.mst_reasons.specs.declared.reason.Reason.{Reason}
use Rattle.mst_telling.specs.NoneLost.{TellAfter, TellEach}
use Rattle.mst_telling.specs.Once.{is_left_out, left_out, names_it, now_at, once_rows, others, rows_now, same_rows, told_now}
use Rattle.mst_telling.specs.Rows.{reason_row}
use Rattle.mst_telling.specs.Texts.{is_told, same_text}
use Rattle.mst_telling.specs.Told.{Found, found_rows, is_now, reason_rows, tells_once}
use Rattle.mst_telling.specs.Verified.{verdict_rows}
use Rattle.mst_telling.proofs.TextLines.{lines_symm}

-- ---- lists
in_flat : {A B : Type 0} (f : A → List B) (xs : List A) (x : A) (y : B) → Contains xs x → Contains (f x) y → Contains (flat_map f xs) y
in_flat f [] x y h k = absurd (in_none x h)
in_flat f (z ∷ xs) x y h k = elim (cases z x xs h) [
  | inl same ↦ Contains-append_left (f z) (flat_map f xs) y (subst (λ w. Contains (f w) y) (sym same) k)
  | inr more ↦ Contains-append_right (f z) (flat_map f xs) y (in_flat f xs x y more k)
]

any_in : {A : Type 0} (test : A → Bool) (xs : List A) (x : A) → Contains xs x → test x ≡ true → list_any test xs ≡ true
any_in test [] x h e = absurd (in_none x h)
any_in test (y ∷ xs) x h e = go (test y) refl (cases y x xs h) (λ more. any_in test xs x more e)
  where
    go : (b : Bool) → test y ≡ b → (y ≡ x) ⊎ Contains xs x → (Contains xs x → list_any test xs ≡ true) → (b || list_any test xs) ≡ true
    go true is either rest = refl
    go false is (inl same) rest = absurd (true≢false (sym e ∙ ap test (sym same) ∙ is))
    go false is (inr more) rest = rest more

any_front : {A : Type 0} (test : A → Bool) (xs ys : List A) → list_any test xs ≡ true → list_any test (xs ++ ys) ≡ true
any_front test xs ys e = let p = passing test xs e in any_in test (xs ++ ys) p.0 (Contains-append_left xs ys p.0 p.1) p.2

both_true : (a b : Bool) → (a && b) ≡ true → (a ≡ true) × (b ≡ true)
both_true true b e = (refl, e)
both_true false b e = absurd (true≢false (sym e))

untrue : (b : Bool) → not b ≡ true → b ≡ false
untrue true e = absurd (true≢false (sym e))
untrue false e = refl

-- ---- what the network itself gives
-- the text of a row that a failure leaves out is told of the network itself, where that gives it
still_told : (scope : Scope) (nows left : List Row) (row : Row) → is_told nows row ≡ true → Contains left row → is_told (told_now scope nows left) row ≡ true
still_told scope nows left row told out = go (has_now scope)
  where
    go : (b : Bool) → is_told (cond b nows (filter (is_told left) nows)) row ≡ true
    go true = told
    go false =
        let p = passing (same_text row) nows told in
        let back : same_text p.0 row ≡ true = lines_symm (row_line p.0) (row_line row) ∙ p.2 in
        any_in (same_text row) (filter (is_told left) nows) p.0 (in_filter (is_told left) nows p.0 p.1 (any_in (same_text p.0) left row out back)) p.2

module _ (n : ℕ) (scope : Scope) (found : List Found) where
  abbrev nows : List Row
  nows = rows_now n found

  abbrev left : List Row
  left = flat_map (left_out n scope nows) found

  abbrev behind : List Row
  behind = flat_map (others n scope nows) found

  abbrev told : List Row
  told = told_now scope nows left

  abbrev same : List Row
  same = same_rows n (count_by (λ f. has_any (left_out n scope nows f)) found)

  abbrev rows : List Row
  rows = once_rows n scope nows found

  after_once : (f : Found) (cause : Cause) (reason : Reason) → Contains found f → f.place ≡ Some cause → Contains f.reasons reason → TellAfter n scope rows cause reason
  after_once f cause reason there at among = go (is_left_out n scope nows (Some cause) reason) refl
    where
      go : (b : Bool) → is_left_out n scope nows (Some cause) reason ≡ b → TellAfter n scope rows cause reason
      go true e =
          let both = both_true (not (names_it scope cause)) (is_told nows (reason_row n None reason)) e in
          let out : Contains (left_out n scope nows f) (reason_row n None reason) = in_map (reason_row n None) (filter (is_left_out n scope nows f.place) f.reasons) reason
          (in_filter (is_left_out n scope nows f.place) f.reasons reason among (ap (λ place. is_left_out n scope nows place reason) at ∙ e)) in
          let is = still_told scope nows left (reason_row n None reason) both.1 (in_flat (left_out n scope nows) found f (reason_row n None reason) there out) in
          inr (untrue (names_it scope cause) both.0, any_front (same_text (reason_row n None reason)) (told ++ same) behind (any_front (same_text (reason_row n None reason)) told same is))
      go false e =
          let kept : Contains (filter (λ r. not (is_left_out n scope nows (Some cause) r)) f.reasons) reason = in_filter (λ r. not (is_left_out n scope nows (Some cause) r)) f.reasons reason among (ap not e) in
          let own : Contains (others n scope nows f) (reason_row n (Some cause) reason) = subst (λ place. Contains (cond (is_now place) [] (reason_rows n place (filter (λ r. not (is_left_out n scope nows place r)) f.reasons))) (reason_row n (Some cause) reason)) (sym at)
          (in_map (reason_row n (Some cause)) (filter (λ r. not (is_left_out n scope nows (Some cause) r)) f.reasons) reason kept) in
          inl (Contains-append_right (told ++ same) behind (reason_row n (Some cause) reason) (in_flat (others n scope nows) found f (reason_row n (Some cause) reason) there own))

  now_once : (f : Found) (reason : Reason) → has_now scope ≡ true → Contains found f → f.place ≡ None → Contains f.reasons reason → Contains rows (reason_row n None reason)
  now_once f reason has there at among =
      let own : Contains (now_at n f) (reason_row n None reason) = subst (λ place. Contains (cond (is_now place) (reason_rows n None f.reasons) []) (reason_row n None reason)) (sym at) (in_map (reason_row n None) f.reasons reason among) in
      let all : Contains nows (reason_row n None reason) = in_flat (now_at n) found f (reason_row n None reason) there own in
      Contains-append_left (told ++ same) behind (reason_row n None reason) (Contains-append_left told same (reason_row n None reason)
      (subst (λ b. Contains (cond b nows (filter (is_told left) nows)) (reason_row n None reason)) (sym has) all))

-- ---- a line
each_found : (n : ℕ) (found : List Found) (f : Found) (reason : Reason) → Contains found f → Contains f.reasons reason → Contains (found_rows n found) (reason_row n f.place reason)
each_found n found f reason there among = in_flat (λ f. reason_rows n f.place f.reasons) found f (reason_row n f.place reason) there (in_map (reason_row n f.place) f.reasons reason among)

pub none_lost : (n : ℕ) (promise : Promise) (found : List Found) → TellEach n promise found (verdict_rows n promise found)
none_lost n promise found = go (tells_once promise.scope)
  where
    go : (once : Bool) → TellEach n promise found (cond once (once_rows n promise.scope (rows_now n found) found) (found_rows n found))
    go true = record { after = after_once n promise.scope found; now = now_once n promise.scope found }
    go false = record {
      after = λ f cause reason there at among. inl (subst (λ place. Contains (found_rows n found) (reason_row n place reason)) at (each_found n found f reason there among));
      now = λ f reason has there at among. subst (λ place. Contains (found_rows n found) (reason_row n place reason)) at (each_found n found f reason there among);
    }
