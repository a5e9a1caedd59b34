-- What is new of a line, by what it lacks and where it isn't kept.
use Rattle.std.proofs.Common.{◌≡◌, ◌∙◌, ℕ, zero, suc, ◌+◌, ◌||◌, Bool, true, false, true≢false, cond, not, List, [], ◌∷◌, ◌++◌, map, Option, Some, None, is_some, Result, Ok, Err, refl, sym, ap, subst, append-nil, append_assoc}
use Rattle.std.specs.Prelude.{slice_index_or}
use Rattle.std.specs.List.{filter, flat_map, list_any}
use Rattle.std.proofs.lemmas.List.{map-append}
use Rattle.std.proofs.lemmas.List.Elements.{filter-append}
use Rattle.std.proofs.lemmas.List.Folds.{list_any-append}
use Rattle.mst_lang.specs.declared.line.Fault.{Fault}
use Rattle.mst_policy.specs.declared.risk.Said.{Said}
use Rattle.mst_policy.specs.declared.risk.Said.TheVariants as says
use Rattle.mst_policy.specs.declared.expectation.Scope.{Scope}
use Rattle.mst_policy.specs.declared.policy.PolicyLine.{PolicyLine}
use Rattle.mst_rows.specs.Rows.{Row}
use Rattle.mst_graph.specs.Lists.{has_any}
use Rattle.mst_reasons.specs.sweep.declared.event.Cause.{Cause}
use Rattle.mst_reasons.specs.Judged.{has_now}
use Rattle.mst_reasons.specs.declared.missing.Missing.{Missing}
use Rattle.mst_reasons.specs.declared.reason.Reason.{Reason}
use Rattle.mst_telling.specs.Judged.{change_at, each_from, found_at, line_found, line_lacks, line_rows, told_in}
use Rattle.mst_telling.specs.Lines.{unkept_by}
use Rattle.mst_telling.specs.Once.{folded_rows, is_left_out, kept_rows, left_out, now_at, others, rows_now, told_now}
use Rattle.mst_telling.specs.Rows.{behind, is_refusal, missing_row, reason_row}
use Rattle.mst_telling.specs.Steps.{Change, judged_rows, mends, new_fails, new_refused, no_rows}
use Rattle.mst_telling.specs.Texts.{is_told, news}
use Rattle.mst_telling.specs.Told.{Found, found_rows, has_reason, is_now, missing_rows, reason_rows, tells_once}
use Rattle.mst_telling.specs.declared.judgement.Finding.{Finding}
use Rattle.mst_telling.specs.declared.judgement.Judgement.{Judgement}
use Rattle.mst_telling.proofs.Lines.{each_same}
use Rattle.mst_telling.proofs.Only.{any_joined, nothing_unkept}

-- ---- rows of which none passes a test
module _ (own test : Row → Bool) where
  pub none_left_of : (rows : List Row) → list_any own rows ≡ false → filter own (filter test rows) ≡ []
  none_left_of [] e = refl
  none_left_of (row ∷ rows) e = go (none_left_of rows) (test row) (own row) refl e
    where
      go : (list_any own rows ≡ false → filter own (filter test rows) ≡ []) → (t o : Bool) → own row ≡ o → (o || list_any own rows) ≡ false → filter own (cond t (row ∷ (filter test rows)) (filter test rows)) ≡ []
      go rest t true k e = absurd (true≢false e)
      go rest true false k e = ap (λ b. cond b (row ∷ filter own (filter test rows)) (filter own (filter test rows))) k ∙ rest e
      go rest false false k e = rest e

  pub all_left_of : (rows : List Row) → list_any own rows ≡ false → filter (λ row. not (own row)) (filter test rows) ≡ filter test rows
  all_left_of [] e = refl
  all_left_of (row ∷ rows) e = go (all_left_of rows) (test row) (own row) refl e
    where
      go : (list_any own rows ≡ false → (filter (λ row. not (own row)) (filter test rows)) ≡ (filter test rows)) → (t o : Bool) → own row ≡ o → (o || list_any own rows) ≡ false → filter (λ row. not (own row)) (cond t (row ∷ (filter test rows)) (filter test rows)) ≡ cond t (row ∷ (filter test rows)) (filter test rows)
      go rest t true k e = absurd (true≢false e)
      go rest true false k e = ap (λ b. cond (not b) (row ∷ (filter (λ row. not (own row)) (filter test rows))) (filter (λ row. not (own row)) (filter test rows))) k ∙ ap (λ (l : List Row). row ∷ l) (rest e)
      go rest false false k e = rest e

  parted : (xs ys : List Row) → filter own (filter test (xs ++ ys)) ≡ filter own (filter test xs) ++ filter own (filter test ys)
  parted xs ys = ap (filter own) (filter-append test xs ys) ∙ filter-append own (filter test xs) (filter test ys)

none_filtered : (own test : Row → Bool) (rows : List Row) → list_any own rows ≡ false → list_any own (filter test rows) ≡ false
none_filtered own test [] e = refl
none_filtered own test (row ∷ rows) e = go (none_filtered own test rows) (test row) (own row) refl e
  where
    go : (list_any own rows ≡ false → list_any own (filter test rows) ≡ false) → (t o : Bool) → own row ≡ o → (o || list_any own rows) ≡ false → list_any own (cond t (row ∷ filter test rows) (filter test rows)) ≡ false
    go rest t true k e = absurd (true≢false e)
    go rest true false k e = ap (λ b. b || list_any own (filter test rows)) k ∙ rest e
    go rest false false k e = rest e

none_flat : {X : Type 0} (own : Row → Bool) (f : X → List Row) → ((x : X) → list_any own (f x) ≡ false) → (xs : List X) → list_any own (flat_map f xs) ≡ false
none_flat own f none [] = refl
none_flat own f none (x ∷ xs) = list_any-append own (f x) (flat_map f xs) ∙ (λ i. none x i || none_flat own f none xs i)

-- ---- rows of reasons don't tell that a line is refused
module _ (n : ℕ) where
  no_refusal : (place : Option Cause) (reasons : List Reason) → list_any is_refusal (reason_rows n place reasons) ≡ false
  no_refusal place [] = refl
  no_refusal place (reason ∷ reasons) = no_refusal place reasons

  none_now : (f : Found) → list_any is_refusal (now_at n f) ≡ false
  none_now f = go (is_now f.place)
    where
      go : (b : Bool) → list_any is_refusal (cond b (reason_rows n None f.reasons) []) ≡ false
      go true = no_refusal None f.reasons
      go false = refl

  none_other : (scope : Scope) (nows : List Row) (f : Found) → list_any is_refusal (others n scope nows f) ≡ false
  none_other scope nows f = go (is_now f.place)
    where
      go : (b : Bool) → list_any is_refusal (cond b [] (kept_rows n scope nows f.place f.reasons)) ≡ false
      go true = refl
      go false = no_refusal f.place (filter (λ reason. not (is_left_out n scope nows f.place reason)) f.reasons)

  none_folded : (scope : Scope) (found : List Found) → list_any is_refusal (folded_rows n scope (rows_now n found) found) ≡ false
  none_folded scope found =
      list_any-append is_refusal (told_now scope (rows_now n found) (flat_map (left_out n scope (rows_now n found)) found)) (flat_map (others n scope (rows_now n found)) found)
      ∙ (λ i. go (has_now scope) i || none_flat is_refusal (others n scope (rows_now n found)) (none_other scope (rows_now n found)) found i)
    where
      no_now : list_any is_refusal (rows_now n found) ≡ false
      no_now = none_flat is_refusal (now_at n) none_now found

      go : (b : Bool) → list_any is_refusal (cond b (rows_now n found) (filter (is_told (flat_map (left_out n scope (rows_now n found)) found)) (rows_now n found))) ≡ false
      go true = no_now
      go false = none_filtered is_refusal (is_told (flat_map (left_out n scope (rows_now n found)) found)) (rows_now n found) no_now

  none_refuse : (read : Result Said Fault) (found : List Found) → list_any is_refusal (unkept_by n read found) ≡ false
  none_refuse (Err fault) found = refl
  none_refuse (Ok (says.Risk line)) found = refl
  none_refuse (Ok (says.Promise promise)) found = go (tells_once promise.scope)
    where
      go : (b : Bool) → list_any is_refusal (cond b (folded_rows n promise.scope (rows_now n found) found) (found_rows n found)) ≡ false
      go true = none_folded promise.scope found
      go false = none_flat is_refusal (λ f. reason_rows n f.place f.reasons) (λ f. no_refusal f.place f.reasons) found

-- ---- a line
module _ (test : Row → Bool) (n : ℕ) where
  lacks_refuse : (what : Option Missing) → filter is_refusal (filter test (missing_rows n what)) ≡ filter test (missing_rows n what)
  lacks_refuse None = refl
  lacks_refuse (Some what) = go (test (missing_row n what))
    where
      go : (b : Bool) → filter is_refusal (cond b (missing_row n what ∷ []) []) ≡ cond b (missing_row n what ∷ []) []
      go true = refl
      go false = refl

  lacks_fail : (what : Option Missing) → filter (λ row. not (is_refusal row)) (filter test (missing_rows n what)) ≡ []
  lacks_fail None = refl
  lacks_fail (Some what) = go (test (missing_row n what))
    where
      go : (b : Bool) → filter (λ row. not (is_refusal row)) (cond b (missing_row n what ∷ []) []) ≡ []
      go true = refl
      go false = refl

module _ (n : ℕ) (line : PolicyLine) (before now : Judgement) where
  abbrev is_new : Row → Bool
  is_new row = not (is_told (line_rows n line before) row)

  abbrev lacking_now : List Row
  lacking_now = missing_rows line.number (line_lacks n now)

  abbrev unkept_now : List Row
  unkept_now = unkept_by line.number line.read (line_found n now.found.items)

  pub refused_is : new_refused (change_at n line before now) ≡ news (line_rows n line before) (missing_rows line.number (line_lacks n now))
  refused_is =
      parted is_refusal is_new lacking_now unkept_now
      ∙ (λ i. lacks_refuse is_new line.number (line_lacks n now) i ++ none_left_of is_refusal is_new unkept_now (none_refuse line.number line.read (line_found n now.found.items)) i) ∙ append-nil (filter is_new lacking_now)

  pub fails_are : new_fails (change_at n line before now) ≡ news (line_rows n line before) (unkept_by line.number line.read (line_found n now.found.items))
  fails_are =
      parted (λ row. not (is_refusal row)) is_new lacking_now unkept_now
      ∙ (λ i. lacks_fail is_new line.number (line_lacks n now) i ++ all_left_of is_refusal is_new unkept_now (none_refuse line.number line.read (line_found n now.found.items)) i)

-- a row is new where none has its text
pub one_new : (rows : List Row) (row : Row) (b : Bool) → is_told rows row ≡ b → news rows (row ∷ []) ≡ cond (not b) (row ∷ []) []
one_new rows row b e = ap (λ b. cond (not b) (row ∷ []) []) e

lacking_any : (n : ℕ) (what : Option Missing) → has_any (missing_rows n what) ≡ is_some what
lacking_any n None = refl
lacking_any n (Some what) = refl

-- a line is unkept where it lacks something, or has a row that tells why
pub unkept_is : (n : ℕ) (line : PolicyLine) (judgement : Judgement) → has_any (line_rows n line judgement) ≡ (is_some (line_lacks n judgement) || has_any (unkept_by line.number line.read (line_found n judgement.found.items)))
unkept_is n line judgement =
    let rest : List Row = unkept_by line.number line.read (line_found n judgement.found.items) in
    any_joined (missing_rows line.number (line_lacks n judgement)) rest ∙ ap (λ b. b || has_any rest) (lacking_any line.number (line_lacks n judgement))

-- ---- no rows of any line
none_at : {A : Type 0} (d : A) (n : ℕ) → slice_index_or [] n d ≡ d
none_at d zero = refl
none_at d (suc n) = refl

pub nothing_told : (judgement : Judgement) → judgement.missing.items ≡ [] → judgement.found.items ≡ [] → (lines : List PolicyLine) → told_in lines judgement ≡ no_rows lines
nothing_told judgement none empty lines =
    each_same (λ n line. line_rows n line judgement) (λ line. []) lines
    (λ n line below is.
    (λ i. missing_rows line.number ((ap (λ l. slice_index_or l n None) none ∙ none_at None n) i) ++ unkept_by line.number line.read (filter has_reason (map (found_at n) (empty i)))) ∙ nothing_unkept line.number line.read)

-- ---- rows one after another
pub put_three : (grown : List Row → Type 0) (step : ℕ) (rows : List Row) (all other : List Change) → other ≡ all
    → grown (((rows ++ map (behind step) (flat_map new_refused all)) ++ map (behind step) (flat_map new_fails all)) ++ flat_map (mends step) all) → grown (rows ++ judged_rows step other)
put_three grown step rows all other e h =
    let a : List Row = map (behind step) (flat_map new_refused all) in
    let b : List Row = map (behind step) (flat_map new_fails all) in
    let c : List Row = flat_map (mends step) all in
    let joined : ((rows ++ a) ++ b) ++ c ≡ rows ++ ((a ++ b) ++ c) = ap (λ (l : List Row). l ++ c) (append_assoc rows a b) ∙ append_assoc rows (a ++ b) c in
    let mapped : a ++ b ≡ map (behind step) (flat_map new_refused all ++ flat_map new_fails all) = sym (map-append (behind step) (flat_map new_refused all) (flat_map new_fails all)) in
    subst grown (joined ∙ ap (λ (l : List Row). rows ++ (l ++ c)) mapped ∙ ap (λ all. rows ++ judged_rows step all) (sym e)) h
