-- What becomes of a path after failures one after another.
use Rattle.std.proofs.Common.{◌≡◌, ◌≢◌, ℕ, ◌+◌, ◌≤◌, List, [], ◌∷◌, ◌++◌, map, Option, None, refl, sym, ap, subst, ◌∙◌, arith}
use Rattle.std.specs.List.{AllZip, flat_map, fold}
use Rattle.std.proofs.lemmas.Grind.{flat_map-append}
use Rattle.std.proofs.lemmas.List.{map_push}
use Rattle.mst_net.specs.tables.Tables.{Net}
use Rattle.mst_path.specs.Paths.{Hop, path_told}
use Rattle.mst_path.specs.declared.trace.Trace.{Trace}
use Rattle.mst_rows.specs.Rows.{Row}
use Rattle.mst_sweeping.specs.sweep.declared.failure.Failure.{Failure}
use Rattle.mst_sweeping.proofs.sweep_lemmas.SweptParts.{zip_joined}
use Rattle.mst_tracing.specs.Fates.{AreFates, IsFate, IsFateTold, Told, counted_with, counts_row, fate_of, fate_row, looked_at, none_counted}
use Rattle.mst_sweeping.specs.sweep.Failures.{failures}
use Rattle.mst_tracing.specs.declared.always.Fate.{Fate}
use Rattle.mst_tracing.specs.declared.always.Fate.TheVariants as fate
use Rattle.mst_tracing.specs.declared.always.Fates.{Fates}

-- ---- one failure
module _ (t : Trace) (failure : Failure) (before now : Option (List Hop)) where
  pub same_fate : path_told before ≡ path_told now → IsFate t failure before now fate.Same []
  same_fate e = record { same = λ _. (refl, refl); changed = λ n. absurd (n e) }

  pub other_fate : path_told before ≢ path_told now → IsFate t failure before now (fate_of now) (fate_row t failure now ∷ [])
  other_fate n = record { same = λ e. absurd (n e); changed = λ _. (refl, refl) }

-- ---- so many of them
-- no count is above that of failures
pub record AreFew (fates : Fates) (count : ℕ) : Type 0 where
  pub failures : fates.failures ≤ count
  pub others : fates.others ≤ fates.failures
  pub nones : fates.nones ≤ fates.failures

pub none_few : AreFew none_counted 0
none_few = record { failures = omega arith; others = omega arith; nones = omega arith }

pub one_few : (fates : Fates) (count : ℕ) (is : Fate) → AreFew fates count → AreFew (counted_with fates is) (count + 1)
one_few fates count fate.Same few = record { failures = (let a = few.failures in omega arith); others = (let a = few.others in omega arith); nones = (let a = few.nones in omega arith) }
one_few fates count fate.Other few = record { failures = (let a = few.failures in omega arith); others = (let a = few.others in omega arith); nones = (let a = few.nones in omega arith) }
one_few fates count fate.None few = record { failures = (let a = few.failures in omega arith); others = (let a = few.others in omega arith); nones = (let a = few.nones in omega arith) }

module _ (net : Net) (t : Trace) (before : Option (List Hop)) where
  -- what becomes of it is told of these failures, and these rows tell it
  pub record AreSoFar (those : List Failure) (fates : Fates) (rows : List Row) : Type 0 where
    pub told : List Told
    pub each : AllZip (λ failure one. IsFateTold net t before failure one.fate one.rows) those told
    pub counted : fates ≡ fold counted_with none_counted (map (λ one. one.fate) told)
    pub are : rows ≡ flat_map (λ one. one.rows) told

  pub none_so_far : AreSoFar [] none_counted []
  none_so_far = record { told = []; each = tt; counted = refl; are = refl }

  folded : (fates : Fates) (all : List Fate) (one : Fate) → fold counted_with fates (all ++ one ∷ []) ≡ counted_with (fold counted_with fates all) one
  folded fates [] one = refl
  folded fates (is ∷ all) one = folded (counted_with fates is) all one

  pub one_more : (those : List Failure) (failure : Failure) (fates : Fates) (rows words : List Row) (is : Fate) → AreSoFar those fates rows → IsFateTold net t before failure is words → (all : List Failure) → all ≡ those ++ failure ∷ []
      → (more : Fates) → more ≡ counted_with fates is → AreSoFar all more (rows ++ words)
  one_more those failure fates rows words is so one all all_are more more_is =
      let last : Told = record { fate = is; rows = words } in
      let own : Told → List Row = λ one. one.rows in
      let end : Told → Fate = λ one. one.fate in
      record {
        told = so.told ++ last ∷ [];
        each = subst (λ l. AllZip (λ failure one. IsFateTold net t before failure one.fate one.rows) l (so.told ++ last ∷ [])) (sym all_are)
            (zip_joined (λ failure one. IsFateTold net t before failure one.fate one.rows) those (failure ∷ []) so.told (last ∷ []) so.each (one, tt));
        counted = more_is ∙ ap (λ f. counted_with f is) so.counted ∙ sym (folded none_counted (map end so.told) is) ∙ ap (fold counted_with none_counted) (sym (map_push end so.told last));
        are = ap (λ r. r ++ words) so.are ∙ ap (λ w. flat_map own so.told ++ w) (sym (append_none words)) ∙ sym (flat_map-append own so.told (last ∷ []));
      }
    where
      append_none : (words : List Row) → words ++ [] ≡ words
      append_none [] = refl
      append_none (w ∷ words) = ap (λ l. w ∷ l) (append_none words)

  -- and all of them, with the last row
  pub all_fates : (those : List Failure) (fates : Fates) (rows : List Row) → those ≡ looked_at t (failures net) → AreSoFar those fates rows → AreFates net t before fates (rows ++ counts_row t fates ∷ [])
  all_fates those fates rows e so = record {
    told = so.told;
    each = subst (λ l. AllZip (λ failure one. IsFateTold net t before failure one.fate one.rows) l so.told) e so.each;
    counted = so.counted;
    are = ap (λ r. r ++ counts_row t fates ∷ []) so.are;
  }
