-- Runs and the sets that they are of.
use Rattle.std.proofs.Common.{◌≡◌, ℕ, suc, ◌+◌, ◌-◌, ◌<◌, ◌≤◌, ◌⊎◌, inl, inr, Bool, true, false, ◌||◌, List, [], ◌∷◌, length, drop, refl, sym, ap, ◌∙◌, arith, true≢false}
use Rattle.std.specs.Prelude.{◌==◌, ◌&&◌, nat_le, if◌then◌else◌}
use Rattle.std.specs.List.{list_any}
use Rattle.std.proofs.lemmas.Bool.{cases_lt, cases_eq, and_from, and_left, and_right, or_from, or_left, le-leb, lt-leb, eq-eqb, ne_eqb, eqb-true}
use Rattle.std.proofs.lemmas.List.{ext_get_or, get_or_past}
use Rattle.mst_ids.specs.Vids.{has, IsVidSet, is_within, with_number, runs_from}
use Rattle.mst_ids.specs.VidBits.{length-set_where, has-set_where}
use Rattle.mst_ids.proofs.VidTextLemmas.{no_next_run, next_run}
use Rattle.mst_ids.proofs.VidSetLemmas.{or_assoc}
use Rattle.mst_edits.specs.Runs.{vids_of, AreRuns}

abbrev pub covers : List (ℕ × ℕ) → ℕ → Bool
covers runs n = list_any (λ run. is_within run n) runs

within : (a b n : ℕ) → a ≤ n → n ≤ b → (nat_le a n && nat_le n b) ≡ true
within a b n low high = and_from (nat_le a n) (nat_le n b) (le-leb a n low) (le-leb n b high)

below : (a b n : ℕ) → n < a → (nat_le a n && nat_le n b) ≡ false
below a b n h = and_left (nat_le a n) (nat_le n b) (lt-leb a n h)

above : (a b n : ℕ) → b < n → (nat_le a n && nat_le n b) ≡ false
above a b n h = and_right (nat_le a n) (nat_le n b) (lt-leb n b h)

pub AreRuns-from : (low from : ℕ) (runs : List (ℕ × ℕ)) → low ≤ from → AreRuns from runs → AreRuns low runs
AreRuns-from low from [] h are = tt
AreRuns-from low from (run ∷ runs) h are = (omega (arith, are.0), are.1, are.2, are.3)

-- nothing below the first run is covered
pub covers_below : (from : ℕ) (runs : List (ℕ × ℕ)) (n : ℕ) → AreRuns from runs → n < from → covers runs n ≡ false
covers_below from [] n are h = refl
covers_below from (run ∷ runs) n are h =
    or_from (is_within run n) (covers runs n) (below run.0 run.1 n (omega (arith, are.0))) (covers_below (run.1 + 2) runs n are.3 (omega (arith, are.0, are.1)))

-- ---- the runs of a set
-- no number from 4095 on has its flag
abbrev AreOut : ℕ → List Bool → Type 0
AreOut n flags = (k : ℕ) → 4095 ≤ n + k → has flags k ≡ false

with_first : (n : ℕ) (runs : List (ℕ × ℕ)) → n ≤ 4094 → AreRuns (n + 1) runs → AreRuns n (with_number n runs)
with_first n [] small are = (omega arith, omega arith, small, tt)
with_first n (run ∷ runs) small are = by (run.0 == n + 1) refl
  where
    by : (b : Bool) → (run.0 == n + 1) ≡ b → AreRuns n (if b then (n, run.1) ∷ runs else (n, n) ∷ run ∷ runs)
    by true e = (omega arith, omega (arith, are.0, are.1), are.2, are.3)
    by false e = (omega arith, omega arith, small, (apart e, are.1, are.2, are.3))
      where
        apart : (run.0 == n + 1) ≡ false → n + 2 ≤ run.0
        apart e = at (cases_eq run.0 (n + 1))
          where
            at : (run.0 ≡ n + 1) ⊎ (run.0 ≡ n + 1 → ⊥) → n + 2 ≤ run.0
            at (inl same) = absurd (true≢false (sym (eq-eqb run.0 (n + 1) same) ∙ e))
            at (inr other) = omega (arith, are.0, other)

runs_are : (n : ℕ) (flags : List Bool) → AreOut n flags → AreRuns n (runs_from n flags)
runs_are n [] out = tt
runs_are n (false ∷ flags) out = AreRuns-from n (n + 1) (runs_from (n + 1) flags) (omega arith) (runs_are (n + 1) flags (λ k h. out (suc k) (omega arith)))
runs_are n (true ∷ flags) out = with_first n (runs_from (n + 1) flags) (by (cases_lt n 4095)) (runs_are (n + 1) flags (λ k h. out (suc k) (omega arith)))
  where
    by : (n < 4095) ⊎ (4095 ≤ n) → n ≤ 4094
    by (inl small) = omega arith
    by (inr large) = absurd (true≢false (out 0 (omega arith)))

alone : (n m : ℕ) → (nat_le n m && nat_le m n) ≡ m == n
alone n m = by (cases_eq m n)
  where
    by : (m ≡ n) ⊎ (m ≡ n → ⊥) → (nat_le n m && nat_le m n) ≡ m == n
    by (inl same) = within n n m (omega arith) (omega arith) ∙ sym (eq-eqb m n same)
    by (inr other) = at (cases_lt m n) ∙ sym (ne_eqb m n other)
      where
        at : (m < n) ⊎ (n ≤ m) → (nat_le n m && nat_le m n) ≡ false
        at (inl less) = below n n m less
        at (inr more) = above n n m (omega (arith, other))

joined : (a n b m : ℕ) → a ≡ n + 1 → n ≤ b → (nat_le n m && nat_le m b) ≡ (m == n || (nat_le a m && nat_le m b))
joined a n b m next h = by (cases_eq m n)
  where
    by : (m ≡ n) ⊎ (m ≡ n → ⊥) → (nat_le n m && nat_le m b) ≡ (m == n || (nat_le a m && nat_le m b))
    by (inl same) = within n b m (omega arith) (omega arith) ∙ sym (or_left (m == n) (nat_le a m && nat_le m b) (eq-eqb m n same))
    by (inr other) = at (cases_lt m n) (cases_lt b m) ∙ ap (λ t. t || (nat_le a m && nat_le m b)) (sym (ne_eqb m n other))
      where
        at : (m < n) ⊎ (n ≤ m) → (b < m) ⊎ (m ≤ b) → (nat_le n m && nat_le m b) ≡ (nat_le a m && nat_le m b)
        at (inl less) _ = below n b m less ∙ sym (below a b m (omega arith))
        at (inr more) (inl past) = above n b m past ∙ sym (above a b m past)
        at (inr more) (inr up) = within n b m more up ∙ sym (within a b m (omega (arith, other)) up)

-- what a number and the runs above it cover
with_covers : (n : ℕ) (runs : List (ℕ × ℕ)) (m : ℕ) → AreRuns (n + 1) runs → covers (with_number n runs) m ≡ (m == n || covers runs m)
with_covers n [] m are = ap (λ b. b || false) (alone n m)
with_covers n (run ∷ runs) m are = by (run.0 == n + 1) refl
  where
    by : (b : Bool) → (run.0 == n + 1) ≡ b → covers (if b then (n, run.1) ∷ runs else (n, n) ∷ run ∷ runs) m ≡ (m == n || (is_within run m || covers runs m))
    by true e = ap (λ b. b || covers runs m) (joined run.0 n run.1 m (eqb-true run.0 (n + 1) e) (omega (arith, are.0, are.1))) ∙ or_assoc (m == n) (is_within run m) (covers runs m)
    by false e = ap (λ b. b || (is_within run m || covers runs m)) (alone n m)

pub runs_cover : (n : ℕ) (flags : List Bool) (m : ℕ) → AreOut n flags → covers (runs_from n flags) m ≡ (nat_le n m && has flags (m - n))
runs_cover n [] m out = sym (and_right (nat_le n m) false refl)
runs_cover n (false ∷ flags) m out = runs_cover (n + 1) flags m (λ k h. out (suc k) (omega arith)) ∙ by (cases_lt n m) (cases_eq m n)
  where
    by : (n < m) ⊎ (m ≤ n) → (m ≡ n) ⊎ (m ≡ n → ⊥) → (nat_le (n + 1) m && has flags (m - (n + 1))) ≡ (nat_le n m && has (false ∷ flags) (m - n))
    by (inl more) _ =
        let next : suc (m - (n + 1)) ≡ m - n = omega arith in
        ap (λ t. t && has flags (m - (n + 1))) (le-leb (n + 1) m (omega arith)) ∙ ap (has (false ∷ flags)) next ∙ ap (λ t. t && has (false ∷ flags) (m - n)) (sym (le-leb n m (omega arith)))
    by (inr less) (inl same) =
        let zero_left : m - n ≡ 0 = omega arith in
        and_left (nat_le (n + 1) m) (has flags (m - (n + 1))) (lt-leb (n + 1) m (omega arith)) ∙ sym (and_right (nat_le n m) (has (false ∷ flags) (m - n)) (ap (has (false ∷ flags)) zero_left))
    by (inr less) (inr other) =
        and_left (nat_le (n + 1) m) (has flags (m - (n + 1))) (lt-leb (n + 1) m (omega arith)) ∙ sym (and_left (nat_le n m) (has (false ∷ flags) (m - n)) (lt-leb n m (omega (arith, other))))
runs_cover n (true ∷ flags) m out =
    with_covers n (runs_from (n + 1) flags) m (runs_are (n + 1) flags later) ∙ ap (λ b. m == n || b) (runs_cover (n + 1) flags m later) ∙ by (cases_lt n m) (cases_eq m n)
  where
    later : AreOut (n + 1) flags
    later k h = out (suc k) (omega arith)

    by : (n < m) ⊎ (m ≤ n) → (m ≡ n) ⊎ (m ≡ n → ⊥) → (m == n || (nat_le (n + 1) m && has flags (m - (n + 1)))) ≡ (nat_le n m && has (true ∷ flags) (m - n))
    by (inl more) _ =
        let next : suc (m - (n + 1)) ≡ m - n = omega arith in
        ap (λ t. t || (nat_le (n + 1) m && has flags (m - (n + 1)))) (ne_eqb m n (λ e. omega arith))
        ∙ ap (λ t. t && has flags (m - (n + 1))) (le-leb (n + 1) m (omega arith)) ∙ ap (has (true ∷ flags)) next ∙ ap (λ t. t && has (true ∷ flags) (m - n)) (sym (le-leb n m (omega arith)))
    by (inr less) (inl same) =
        let zero_left : m - n ≡ 0 = omega arith in
        or_left (m == n) _ (eq-eqb m n same) ∙ sym (and_from (nat_le n m) (has (true ∷ flags) (m - n)) (le-leb n m (omega arith)) (ap (has (true ∷ flags)) zero_left))
    by (inr less) (inr other) =
        or_from (m == n) _ (ne_eqb m n other) (and_left (nat_le (n + 1) m) (has flags (m - (n + 1))) (lt-leb (n + 1) m (omega arith))) ∙ sym (and_left (nat_le n m) (has (true ∷ flags) (m - n)) (lt-leb n m (omega (arith, other))))

out_of_set : (vids : List Bool) → IsVidSet vids → AreOut 0 vids
out_of_set vids is k h = by (cases_eq k 4095)
  where
    by : (k ≡ 4095) ⊎ (k ≡ 4095 → ⊥) → has vids k ≡ false
    by (inl last) = ap (has vids) last ∙ is.2
    by (inr other) = get_or_past vids k false (omega (arith, is.0, other))

-- the runs of a set are runs, and they cover the set
pub runs_of_set : (vids : List Bool) → IsVidSet vids → AreRuns 1 (runs_from 0 vids)
runs_of_set [] is = tt
runs_of_set (true ∷ flags) is = absurd (true≢false is.1)
runs_of_set (false ∷ flags) is = runs_are 1 flags (λ k h. out_of_set (false ∷ flags) is (suc k) (omega arith))

pub set_of_runs : (vids : List Bool) → IsVidSet vids → vids_of (runs_from 0 vids) ≡ vids
set_of_runs vids is = sym (ext_get_or false vids (vids_of (runs_from 0 vids)) (is.0 ∙ sym (length-set_where (covers (runs_from 0 vids)))) (λ n h.
    let small : n < 4096 = omega (arith, is.0) in
    let same : n - 0 ≡ n = omega arith in
    sym (has-set_where (covers (runs_from 0 vids)) n small ∙ runs_cover 0 vids n (out_of_set vids is) ∙ ap (λ k. nat_le 0 n && has vids k) same ∙ ap (λ b. b && has vids n) (le-leb 0 n (omega arith)))))

-- ---- the set of some runs
runs_again : (from : ℕ) (runs : List (ℕ × ℕ)) (flags : List Bool) → length flags ≡ 4096 → from ≤ 4096 → AreRuns from runs → ((n : ℕ) → from ≤ n → n < 4096 → has flags n ≡ covers runs n) → runs_from from (drop from flags) ≡ runs
runs_again from [] flags long fits are each = no_next_run flags from 4096 fits (sym long) each
runs_again from (run ∷ runs) flags long fits are each =
    next_run flags from run.0 (run.1 + 1) long are.0
    (λ k low high. each k low (omega (arith, are.1, are.2)) ∙ or_from (is_within run k) (covers runs k) (below run.0 run.1 k high) (covers_below (run.1 + 2) runs k are.3 (omega (arith, are.1))))
    (omega (arith, are.1)) (omega (arith, are.2))
    (λ k low high. each k (omega (arith, are.0)) (omega (arith, are.2)) ∙ or_left (is_within run k) (covers runs k) (within run.0 run.1 k low (omega arith)))
    (each (run.1 + 1) (omega (arith, are.0, are.1)) (omega (arith, are.2)) ∙ or_from (is_within run (run.1 + 1)) (covers runs (run.1 + 1)) (above run.0 run.1 (run.1 + 1) (omega arith)) (covers_below (run.1 + 2) runs (run.1 + 1) are.3 (omega arith)))
    ∙ (let same : run.1 + 1 - 1 ≡ run.1 = omega arith in
    ap (λ end. (run.0, end) ∷ runs_from (end + 1) (drop (end + 1) flags)) same)
    ∙ ap (λ l. run ∷ l) (runs_again (run.1 + 1) runs flags long (omega (arith, are.2)) (AreRuns-from (run.1 + 1) (run.1 + 2) runs (omega arith) are.3) (λ n low high.
    each n (omega (arith, are.0, are.1)) high ∙ ap (λ b. b || covers runs n) (above run.0 run.1 n (omega arith))))

pub runs_of_runs : (from : ℕ) (runs : List (ℕ × ℕ)) → AreRuns from runs → runs_from 0 (vids_of runs) ≡ runs
runs_of_runs from runs are = runs_again 0 runs (vids_of runs) (length-set_where (covers runs)) (omega arith) (AreRuns-from 0 from runs (omega arith) are) (λ n low high. has-set_where (covers runs) n high)
