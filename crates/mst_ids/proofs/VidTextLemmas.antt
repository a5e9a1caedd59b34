-- The text of a set of VIDs, run by run.
use Rattle.std.proofs.Common.{◌≡◌, ℕ, zero, suc, ◌+◌, ◌<◌, ◌≤◌, Bool, true, false, List, [], ◌∷◌, ◌++◌, length, take, drop, refl, sym, ap, ◌∙◌, subst, ⊎_elim, ◌-◌, append_assoc, arith}
use Rattle.std.specs.Prelude.{Result, Ok, Err, OnErr, ◌==◌, if◌then◌else◌}
use Rattle.std.specs.List.{flat_map}
use Rattle.std.proofs.lemmas.Bool.{eq-eqb, ne_eqb, cases_lt, both_ways}
use Rattle.std.proofs.lemmas.List.{at_drop_more, append-nil, drop_all, take-append-le, take-take, length-take}
use Rattle.mst_ids.specs.Vids.{has, IsVidSet, with_number, runs_from, run_text, runs_text, vids_text}

-- ---- runs
-- the first run, if there is one, begins at a number or above it
StartsFrom : ℕ → List (ℕ × ℕ) → Type 0
StartsFrom n [] = Unit {0}
StartsFrom n (run ∷ runs) = n ≤ run.0

StartsFrom-below : (n : ℕ) (runs : List (ℕ × ℕ)) → StartsFrom (n + 1) runs → StartsFrom n runs
unfolding StartsFrom
StartsFrom-below n [] h = tt
StartsFrom-below n (run ∷ runs) h = omega arith

StartsFrom-with_number : (n : ℕ) (runs : List (ℕ × ℕ)) → StartsFrom n (with_number n runs)
unfolding StartsFrom
StartsFrom-with_number n [] = omega arith
StartsFrom-with_number n (run ∷ runs) = go (run.0 == n + 1)
  where
    go : (b : Bool) → StartsFrom n (if b then (n, run.1) ∷ runs else (n, n) ∷ run ∷ runs)
    go true = omega arith
    go false = omega arith

StartsFrom-runs_from : (n : ℕ) (flags : List Bool) → StartsFrom n (runs_from n flags)
unfolding StartsFrom
StartsFrom-runs_from n [] = tt
StartsFrom-runs_from n (true ∷ flags) = StartsFrom-with_number n (runs_from (n + 1) flags)
StartsFrom-runs_from n (false ∷ flags) = StartsFrom-below n (runs_from (n + 1) flags) (StartsFrom-runs_from (n + 1) flags)

-- a number that touches no run
with_number-alone : (n : ℕ) (runs : List (ℕ × ℕ)) → StartsFrom (n + 1 + 1) runs → with_number n runs ≡ (n, n) ∷ runs
unfolding StartsFrom
with_number-alone n [] h = refl
with_number-alone n (run ∷ runs) h =
    ap (λ (b : Bool). if b then (n, run.1) ∷ runs else (n, n) ∷ run ∷ runs) (ne_eqb run.0 (n + 1) (λ e. omega arith))

-- a number that touches a run
with_number-joined : (n last : ℕ) (runs : List (ℕ × ℕ)) → with_number n ((n + 1, last) ∷ runs) ≡ (n, last) ∷ runs
with_number-joined n last runs =
    ap (λ (b : Bool). if b then (n, last) ∷ runs else (n, n) ∷ (n + 1, last) ∷ runs) (eq-eqb (n + 1) (n + 1) refl)

runs_at : (flags : List Bool) (n : ℕ) (b : Bool) → n < length flags → has flags n ≡ b → runs_from n (drop n flags) ≡ runs_from n (b ∷ drop (n + 1) flags)
runs_at flags n b h is = at_drop_more (runs_from n) flags n false h ∙ ap (λ x. runs_from n (x ∷ drop (n + 1) flags)) is

-- numbers that are no members begin no run
pub runs_skip : (flags : List Bool) (count n m : ℕ) → m ≡ n + count → m ≤ length flags → ((k : ℕ) → n ≤ k → k < m → has flags k ≡ false) → runs_from n (drop n flags) ≡ runs_from m (drop m flags)
runs_skip flags zero n m e h each = let same : n ≡ m = omega arith in ap (λ k. runs_from k (drop k flags)) same
runs_skip flags (suc count) n m e h each =
    runs_at flags n false (omega arith) (each n (omega arith) (omega arith))
    ∙ runs_skip flags count (n + 1) m (omega arith) h (λ k a b. each k (omega arith) b)

-- members up to a number that is none are a run
run_of_one : (flags : List Bool) (n : ℕ) → n + 1 < length flags → has flags n ≡ true → has flags (n + 1) ≡ false → runs_from n (drop n flags) ≡ (n, n) ∷ runs_from (n + 1) (drop (n + 1) flags)
run_of_one flags n h here after =
    runs_at flags n true (omega arith) here
    ∙ with_number-alone n (runs_from (n + 1) (drop (n + 1) flags))
    (subst (λ runs. StartsFrom (n + 1 + 1) runs) (sym (runs_at flags (n + 1) false h after)) (StartsFrom-runs_from (n + 1 + 1) (drop (n + 1 + 1) flags)))

pub runs_take : (flags : List Bool) (count n last : ℕ) → last ≡ n + count → last + 1 < length flags → ((k : ℕ) → n ≤ k → k ≤ last → has flags k ≡ true) → has flags (last + 1) ≡ false → runs_from n (drop n flags) ≡ (n, last) ∷ runs_from (last + 1) (drop (last + 1) flags)
runs_take flags zero n last e h each after =
    let same : n ≡ last = omega arith in
    subst (λ l. runs_from n (drop n flags) ≡ (n, l) ∷ runs_from (l + 1) (drop (l + 1) flags)) same
    (run_of_one flags n (omega arith) (each n (omega arith) (omega arith)) (ap (λ l. has flags (l + 1)) same ∙ after))
runs_take flags (suc count) n last e h each after =
    runs_at flags n true (omega arith) (each n (omega arith) (omega arith))
    ∙ ap (with_number n) (runs_take flags count (n + 1) last (omega arith) h (λ k a b. each k (omega arith) b) after)
    ∙ with_number-joined n last (runs_from (last + 1) (drop (last + 1) flags))

-- ---- the next run, from a number on
-- there is none where no further number is a member
pub no_next_run : (flags : List Bool) (from end : ℕ) → from ≤ end → end ≡ length flags → ((k : ℕ) → from ≤ k → k < end → has flags k ≡ false) → runs_from from (drop from flags) ≡ []
no_next_run flags from end order all each =
    runs_skip flags (end - from) from end (omega arith) (omega arith) each ∙ ap (runs_from end) (drop_all end flags (omega arith))

-- it ends above its first, and below 4096
pub run_ends : (flags : List Bool) (first end : ℕ) → IsVidSet flags → first < 4096 → has flags first ≡ true → first ≤ end → end ≤ 4096 → ((k : ℕ) → first ≤ k → k < end → has flags k ≡ true) → (end < 4096 → has flags end ≡ false) → (first < end) × (end < 4096)
run_ends flags first end vids small here order most each after = (⊎_elim (λ h. h) (λ h. absurd (empty h)) (cases_lt first end), ⊎_elim (λ h. h) (λ h. absurd (full h)) (cases_lt end 4096))
  where
    empty : end ≤ first → ⊥
    empty h = let same : end ≡ first = omega arith in both_ways (has flags first) (ap (has flags) (sym same) ∙ after (omega arith)) here

    full : 4096 ≤ end → ⊥
    full h = both_ways (has flags 4095) vids.2 (each 4095 (omega arith) (omega arith))

pub next_run : (flags : List Bool) (from first end : ℕ) → length flags ≡ 4096 → from ≤ first → ((k : ℕ) → from ≤ k → k < first → has flags k ≡ false) → first < end → end < 4096 → ((k : ℕ) → first ≤ k → k < end → has flags k ≡ true) → has flags end ≡ false → runs_from from (drop from flags) ≡ (first, end - 1) ∷ runs_from (end - 1 + 1) (drop (end - 1 + 1) flags)
next_run flags from first end long order before some most each after =
    let next : end - 1 + 1 ≡ end = omega arith in
    runs_skip flags (first - from) from first (omega arith) (omega arith) before
    ∙ runs_take flags (end - 1 - first) first (end - 1) (omega arith) (omega arith) (λ k a b. each k a (omega arith)) (ap (has flags) next ∙ after)

-- ---- texts
-- the text of runs that follow others
abbrev pub further_text : List (ℕ × ℕ) → List ℕ
further_text runs = flat_map (λ run. 44 ∷ run_text run) runs

runs_text-cons : (run : ℕ × ℕ) (runs : List (ℕ × ℕ)) → runs_text (run ∷ runs) ≡ run_text run ++ further_text runs
runs_text-cons run [] = sym (append-nil (run_text run))
runs_text-cons run (next ∷ runs) = ap (λ text. run_text run ++ 44 ∷ text) (runs_text-cons next runs)

-- the first run, a further one, and no more
pub first_run : (old out : List ℕ) (flags : List Bool) (run : ℕ × ℕ) (runs : List (ℕ × ℕ)) → runs_from 0 flags ≡ run ∷ runs → out ≡ old ++ run_text run → out ++ further_text runs ≡ old ++ vids_text flags
first_run old out flags run runs is wrote =
    ap (λ text. text ++ further_text runs) wrote
    ∙ append_assoc old (run_text run) (further_text runs)
    ∙ ap (λ text. old ++ text) (sym (runs_text-cons run runs))
    ∙ ap (λ rs. old ++ runs_text rs) (sym is)

pub further_run : (whole out comma new : List ℕ) (run : ℕ × ℕ) (before runs : List (ℕ × ℕ)) → before ≡ run ∷ runs → comma ≡ out ++ 44 ∷ [] → new ≡ comma ++ run_text run → out ++ further_text before ≡ whole → new ++ further_text runs ≡ whole
further_run whole out comma new run before runs is wrote wrote_run e =
    ap (λ text. text ++ further_text runs) (wrote_run ∙ ap (λ text. text ++ run_text run) wrote)
    ∙ append_assoc (out ++ 44 ∷ []) (run_text run) (further_text runs)
    ∙ append_assoc out (44 ∷ []) (run_text run ++ further_text runs)
    ∙ ap (λ rs. out ++ further_text rs) (sym is)
    ∙ e

pub no_run : (whole out : List ℕ) (before : List (ℕ × ℕ)) → before ≡ [] → out ++ further_text before ≡ whole → out ≡ whole
no_run whole out before is e = sym (append-nil out) ∙ ap (λ rs. out ++ further_text rs) (sym is) ∙ e

-- what stood at the front stays there
pub front_stays : (old out new more : List ℕ) → take (length old) out ≡ old → new ≡ out ++ more → take (length old) new ≡ old
front_stays old out new more front is =
    let long : length old ≤ length out = omega (arith, ap length front, length-take (length old) out) in
    ap (take (length old)) is ∙ take-append-le (length old) out more long ∙ front

-- and also where the front of that stays
pub front_through : (old out new : List ℕ) → take (length old) out ≡ old → take (length out) new ≡ out → take (length old) new ≡ old
front_through old out new front later =
    let long : length old ≤ length out = omega (arith, ap length front, length-take (length old) out) in
    sym (take-take (length old) (length out) new long) ∙ ap (take (length old)) later ∙ front

-- a fact that holds whatever the result is
pub on_err : {X E : Type 0} (r : Result X E) (P : Type 0) → P → OnErr r P
on_err (Ok x) P h = tt
on_err (Err e) P h = h
