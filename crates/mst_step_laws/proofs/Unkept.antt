-- What becomes of the lines of a policy along the steps of a change.
use Rattle.std.proofs.Common.{◌≡◌, ◌==◌, inl, inr, ℕ, ◌+◌, ◌-◌, Bool, true, false, true≢false, not, ◌&&◌, ◌||◌, List, [], ◌∷◌, length, Ok, refl, sym, ap, subst, ◌∙◌, arith}
use Rattle.std.specs.Prelude.{if◌then◌else◌}
use Rattle.std.specs.List.{AllByRecursion, AllZip, Contains, count_by, sum_by}
use Rattle.std.proofs.lemmas.List.Sums.{sum_by-cons}
use Rattle.mst_change.specs.Reading.{IsInRange, LineRead}
use Rattle.mst_change.specs.Steps.{all_lines}
use Rattle.mst_forest.specs.Outcome.{IsOutcome}
use Rattle.mst_graph.specs.Lists.{has_any}
use Rattle.mst_graph.proofs.Members.{cases, from_filter, in_none}
use Rattle.mst_lang.specs.Ranges.{InRange}
use Rattle.mst_lang.specs.declared.line.Edit.{Edit}
use Rattle.mst_net.specs.tables.After.{after}
use Rattle.mst_net.specs.tables.Tables.{IsNetwork, Net}
use Rattle.mst_policy.specs.declared.policy.PolicyLine.{PolicyLine}
use Rattle.mst_rows.specs.Rows.{Row}
use Rattle.mst_verdict.specs.telling.Steps.{Change, changes, is_broken, mends, unkept_count}
use Rattle.mst_verdict.specs.telling.Rows.{mends_row}
use Rattle.mst_verdict.specs.telling.Texts.{is_told, news, same_text}
use Rattle.mst_verdict.specs.reasons.Risks.{events}
use Rattle.mst_verdict.specs.telling.Lines.{IsToldThere}
use Rattle.mst_verdict.specs.reasons.Named.{Prior}
use Rattle.mst_verdict.specs.Verifying.{IsPriorNetwork, Judges}
use Rattle.mst_verdict.specs.Setting.{after_lines, after_steps}
use Rattle.mst_verdict.specs.Stepping.{AreRowsIn, AreWatched, IsStepTold, StepTold, Watch, changes_in, prior_at, steps_made, watch_of}
use Rattle.mst_verdict.specs.declared.stepping.Course.{Course}
use Rattle.mst_step_laws.specs.Unkept.{AreNewsNext, AreOtherNews, broken_by, mended_by, told_unkept}
use Rattle.mst_step_laws.proofs.Courses.{all_first, all_others, lines_network, one_judged}

-- ---- one line
-- a `mends` row stands just where the line had rows, and has none
has_mends : (step : ℕ) (c : Change) → has_any (mends step c) ≡ (has_any c.before && not (has_any c.now))
has_mends step c = of_flag (has_any c.before && not (has_any c.now))
  where
    of_flag : (b : Bool) → has_any (if b then mends_row step c.line.number ∷ [] else []) ≡ b
    of_flag true = refl
    of_flag false = refl

-- where nothing is new, all that is told was told before
told_before : (before now : List Row) (row : Row) (rows : List Row) → now ≡ row ∷ rows → has_any (news before now) ≡ false → has_any before ≡ true
told_before [] now row rows e none = absurd (true≢false (sym (ap (λ l. has_any (news [] l)) e) ∙ none))
told_before (b ∷ before) now row rows e none = refl

pub enough : (step : ℕ) (c : Change) → has_any c.now ≡ told_unkept step c
enough step c = by_rows c.before c.now ∙ ap (λ b. has_any (news c.before c.now) || has_any c.before && not b) (sym (has_mends step c))
  where
    by_flags : (old new : Bool) → (new ≡ false → old ≡ true) → true ≡ (new || old && not (old && false))
    by_flags old true h = refl
    by_flags true false h = refl
    by_flags false false h = absurd (true≢false (sym (h refl)))

    by_rows : (before now : List Row) → has_any now ≡ (has_any (news before now) || has_any before && not (has_any before && not (has_any now)))
    by_rows [] [] = refl
    by_rows (b ∷ before) [] = refl
    by_rows before (row ∷ rows) = by_flags (has_any before) (has_any (news before (row ∷ rows))) (told_before before (row ∷ rows) row rows refl)

-- ---- all lines, in two networks
abbrev one_if : Bool → ℕ
one_if b = if b then 1 else 0

balanced : (old new : Bool) → one_if old + one_if (not old && new) ≡ one_if new + one_if (old && not new)
balanced true true = refl
balanced true false = refl
balanced false true = refl
balanced false false = refl

module _ (step : ℕ) where
  abbrev is_mended : Change → Bool
  is_mended c = has_any (mends step c)

  balance : (lines : List PolicyLine) (before now : List (List Row)) → length before ≡ length lines → length now ≡ length lines
      → unkept_count before + count_by is_broken (changes lines before now) ≡ unkept_count now + count_by is_mended (changes lines before now)
  balance [] [] [] e f = refl
  balance [] (b ∷ bs) now e f = absurd (omega (arith, e))
  balance [] [] (n ∷ ns) e f = absurd (omega (arith, f))
  balance (l ∷ lines) [] now e f = absurd (omega (arith, e))
  balance (l ∷ lines) (b ∷ bs) [] e f = absurd (omega (arith, f))
  balance (l ∷ lines) (b ∷ bs) (n ∷ ns) e f =
      let c : Change = record { line = l; before = b; now = n } in
      omega (
        arith,
        sum_by-cons (λ rows. one_if (has_any rows)) b bs,
        sum_by-cons (λ rows. one_if (has_any rows)) n ns,
        sum_by-cons (λ c. one_if (is_broken c)) c (changes lines bs ns),
        sum_by-cons (λ c. one_if (is_mended c)) c (changes lines bs ns),
        ap one_if (has_mends step c),
        balanced (has_any b) (has_any n),
        balance lines bs ns (omega (arith, e)) (omega (arith, f)),
      )

-- ---- no row twice
or_first : (a b : Bool) → (a || b) ≡ false → a ≡ false
or_first true b e = absurd (true≢false e)
or_first false b e = refl

or_second : (a b : Bool) → (a || b) ≡ false → b ≡ false
or_second true b e = absurd (true≢false e)
or_second false b e = e

not_so : (b : Bool) → not b ≡ true → b ≡ false
not_so true e = absurd (true≢false (sym e))
not_so false e = refl

none_told : (rows : List Row) (row other : Row) → Contains rows row → is_told rows other ≡ false → same_text other row ≡ false
none_told [] row other there none = absurd (in_none row there)
none_told (r ∷ rows) row other there none = elim (cases r row rows there) [
  | inl e ↦ subst (λ (x : Row). same_text other x ≡ false) e (or_first (same_text other r) (is_told rows other) none)
  | inr later ↦ none_told rows row other later (or_second (same_text other r) (is_told rows other) none)
]

other_news : (line : PolicyLine) (before now next : List Row) → AreOtherNews (record { line = line; before = before; now = now }) (record { line = line; before = now; now = next })
other_news line before now next row other told again =
    none_told now row other (from_filter (λ row. not (is_told before row)) now row told).0 (not_so (is_told now other) (from_filter (λ row. not (is_told now row)) next other again).1)

news_next : (lines : List PolicyLine) (before now next : List (List Row)) → length before ≡ length lines → length now ≡ length lines → length next ≡ length lines → AllZip AreOtherNews (changes lines before now) (changes lines now next)
news_next [] before now next e f g = tt
news_next (l ∷ lines) [] now next e f g = absurd (omega (arith, e))
news_next (l ∷ lines) (b ∷ bs) [] next e f g = absurd (omega (arith, f))
news_next (l ∷ lines) (b ∷ bs) (n ∷ ns) [] e f g = absurd (omega (arith, g))
news_next (l ∷ lines) (b ∷ bs) (n ∷ ns) (x ∷ xs) e f g = (other_news l b n x, news_next lines bs ns xs (omega (arith, e)) (omega (arith, f)) (omega (arith, g)))

-- ---- along the steps
zip_length : {A B : Type 0} (R : A → B → Type 0) (xs : List A) (ys : List B) → AllZip R xs ys → length ys ≡ length xs
zip_length R [] [] h = refl
zip_length R [] (y ∷ ys) h = absurd h
zip_length R (x ∷ xs) [] h = absurd h
zip_length R (x ∷ xs) (y ∷ ys) h = omega (arith, zip_length R xs ys h.1)

module _ (stay : (edit : Edit) (net new : Net) → InRange edit → IsNetwork net → after edit net ≡ Ok new → IsNetwork new)
    (judged : (net : Net) (prior : Prior) (is_last : Bool) (lines : List PolicyLine) (told other : List (List Row)) → IsNetwork net → IsPriorNetwork prior
    → Judges net prior is_last lines told → Judges net prior is_last lines other → told ≡ other) where
  module _ (w : Watch) (first : IsNetwork w.first) (settled : IsOutcome w.first w.outcome) where
    as_long : (n : ℕ) (net : Net) (rows : List (List Row)) → AreRowsIn w n net rows → length rows ≡ length w.lines
    as_long n net rows are = zip_length (IsToldThere (n == w.last) net are.outcome (prior_at w n) (events net w.lines)) w.lines rows are.are

    was_told : (n : ℕ) (net : Net) (rows before : List (List Row)) → IsNetwork net → AreRowsIn w (n + 1 - 1) net before → AreRowsIn w n net rows → before ≡ rows
    was_told n net rows before is x y = let number : n + 1 - 1 ≡ n = omega arith in one_judged stay judged w first settled n net before rows is (subst (λ k. AreRowsIn w k net before) number x) y

    counted : (n : ℕ) (net : Net) (steps : List (List LineRead)) (told : List StepTold) (start last : List (List Row)) → IsNetwork net → AllByRecursion IsInRange (all_lines steps)
        → AllZip (IsStepTold w) (steps_made (n + 1) net steps) told → AreRowsIn w n net start → AreRowsIn w (n + length steps) (after_steps net steps) last
        → unkept_count start + sum_by (broken_by w.lines) told ≡ unkept_count last + sum_by (mended_by w.lines) told
    counted n net [] (t ∷ told) start last is fit each was ends = absurd each
    counted n net (lines ∷ steps) [] start last is fit each was ends = absurd each
    counted n net [] [] start last is fit each was ends =
        let number : n + 0 ≡ n = omega arith in
        let same : start ≡ last = one_judged stay judged w first settled n net start last is was (subst (λ k. AreRowsIn w k net last) number ends) in
        ap (λ rows. unkept_count rows + 0) same
    counted n net (lines ∷ steps) (t ∷ told) start last is fit each was ends =
        let now = lines_network stay net lines (all_first IsInRange lines (all_lines steps) fit) is in
        let before : t.before ≡ start = was_told n net start t.before is each.0.judged_before was in
        let number : n + length (lines ∷ steps) ≡ n + 1 + length steps = omega arith in
        let here : unkept_count t.before + broken_by w.lines t ≡ unkept_count t.now + mended_by w.lines t =
        balance t.number w.lines t.before t.now (as_long (n + 1 - 1) net t.before each.0.judged_before) (as_long (n + 1) (after_lines net lines) t.now each.0.judged_now) in
        let rest : unkept_count t.now + sum_by (broken_by w.lines) told ≡ unkept_count last + sum_by (mended_by w.lines) told =
        counted (n + 1) (after_lines net lines) steps told t.now last now (all_others IsInRange lines (all_lines steps) fit) each.1 each.0.judged_now
        (subst (λ k. AreRowsIn w k (after_steps (after_lines net lines) steps) last) number ends) in
        omega (arith, here, rest, ap unkept_count before, sum_by-cons (broken_by w.lines) t told, sum_by-cons (mended_by w.lines) t told)

    once : (n : ℕ) (net : Net) (steps : List (List LineRead)) (told : List StepTold) → IsNetwork net → AllByRecursion IsInRange (all_lines steps)
        → AllZip (IsStepTold w) (steps_made (n + 1) net steps) told → AreNewsNext w.lines told
    once n net steps [] is fit each = tt
    once n net steps (t ∷ []) is fit each = tt
    once n net [] (t ∷ u ∷ told) is fit each = absurd each
    once n net (lines ∷ []) (t ∷ u ∷ told) is fit each = absurd each.1
    once n net (lines ∷ more ∷ steps) (t ∷ u ∷ told) is fit each =
        let next = after_lines net lines in
        let now = lines_network stay net lines (all_first IsInRange lines (all_lines (more ∷ steps)) fit) is in
        let others = all_others IsInRange lines (all_lines (more ∷ steps)) fit in
        let same : u.before ≡ t.now = was_told (n + 1) next t.now u.before now each.1.0.judged_before each.0.judged_now in
        let own = news_next w.lines t.before t.now u.now (as_long (n + 1 - 1) net t.before each.0.judged_before) (as_long (n + 1) next t.now each.0.judged_now)
        (as_long (n + 1 + 1) (after_lines next more) u.now each.1.0.judged_now) in
        (subst (λ before. AllZip AreOtherNews (changes_in w.lines t) (changes w.lines before u.now)) (sym same) own, once (n + 1) next (more ∷ steps) (u ∷ told) now others each.1)

  module _ (net : Net) (steps : List (List LineRead)) (lines : List PolicyLine) (unread : ℕ) (c : Course) (rows : List Row) (is : IsNetwork net) (fit : AllByRecursion IsInRange (all_lines steps))
      (x : AreWatched net steps lines unread c rows) where
    pub unkept_to_unkept : unkept_count x.start + sum_by (broken_by lines) x.told ≡ c.unkept + sum_by (mended_by lines) x.told
    unkept_to_unkept =
        let number : length steps ≡ 0 + length steps = omega arith in
        counted (watch_of net x.outcome steps lines) is x.is_outcome 0 net steps x.told x.start x.last is fit x.each x.judged_start
        (subst (λ k. AreRowsIn (watch_of net x.outcome steps lines) k (after_steps net steps) x.last) number x.judged_last)
        ∙ ap (λ (c : Course). c.unkept + sum_by (mended_by lines) x.told) (sym x.counted)

    pub news_once : AreNewsNext lines x.told
    news_once = once (watch_of net x.outcome steps lines) is x.is_outcome 0 net steps x.told is fit x.each
