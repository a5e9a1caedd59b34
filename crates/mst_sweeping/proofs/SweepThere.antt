-- Each network has rows of what each single failure does, of what each of a part of them does, and of what risks do.
use Rattle.std.proofs.Common.{ℕ, Bool, List, [], ◌∷◌, ◌++◌, take, drop, zero, suc, refl}
use Rattle.std.specs.List.{AllByRecursion, AllZip, flat_map, count_by}
use Rattle.mst_net.specs.tables.Tables.{Net, IsNetwork}
use Rattle.mst_rows.specs.Rows.{Row}
use Rattle.mst_plan.specs.forest.Outcome.{Outcome, IsOutcome}
use Rattle.mst_sweep.specs.declared.event.Cause.{Cause}
use Rattle.mst_sweep.specs.Failures.{Event, alone, failed, failures}
use Rattle.mst_sweep.specs.SweepText.{AreEventRows, AreRowsOf, Told, IsTold, risks_row, sweep_row}
use Rattle.mst_sweep.specs.SweepParts.{PartOf, part_of}
use Rattle.mst_sweep.proofs.Together.{failed_network}
use Rattle.mst_sweeping.specs.Sweeping.{Sweeps, SweepsPart, SweepsRisks}

pub all_joined : {A : Type 0} (P : A → Type 0) (xs ys : List A) → AllByRecursion P xs → AllByRecursion P ys → AllByRecursion P (xs ++ ys)
all_joined P [] ys h k = k
all_joined P (x ∷ xs) ys h k = (h.0, all_joined P xs ys h.1 k)

pub all_taken : {A : Type 0} (P : A → Type 0) (n : ℕ) (xs : List A) → AllByRecursion P xs → AllByRecursion P (take n xs)
all_taken P zero xs h = tt
all_taken P (suc n) [] h = tt
all_taken P (suc n) (x ∷ xs) h = (h.0, all_taken P n xs h.1)

pub all_dropped : {A : Type 0} (P : A → Type 0) (n : ℕ) (xs : List A) → AllByRecursion P xs → AllByRecursion P (drop n xs)
all_dropped P zero xs h = h
all_dropped P (suc n) [] h = tt
all_dropped P (suc n) (x ∷ xs) h = all_dropped P n xs h.1

module _ (net : Net) (is : IsNetwork net) (outcomes : (net : Net) → IsNetwork net → (o : Outcome) × IsOutcome net o)
    (some : (a b : Net) (o p : Outcome) → IsNetwork a → IsNetwork b → (cause : Cause) → (c : Bool) × (rows : List Row) × AreEventRows a o b p cause rows c) where
  abbrev o : Outcome
  o = (outcomes net is).0

  event_told : (event : Event) → (told : Told) × IsTold net o event told
  event_told event =
      let new : Net = failed event.failures net in
      let ok : IsNetwork new = failed_network event.failures net is in
      let after_it = outcomes new ok in
      let t = some net new o after_it.0 is ok event.cause in
      (record { rows = t.1; cuts = t.0 }, record { outcome = after_it.0; is_outcome = after_it.1; is = t.2 })

  module _ {A : Type 0} (event : A → Event) where
    has_told : (xs : List A) → (told : List Told) × AllZip (λ x. IsTold net o (event x)) xs told
    has_told [] = ([], tt)
    has_told (x ∷ xs) =
        let t = event_told (event x) in
        let others = has_told xs in
        (t.0 ∷ others.0, (t.1, others.1))

    told_of : (last : List A → ℕ → Row) (xs : List A) → (cuts : ℕ) × (rows : List Row) × AreRowsOf (λ x. IsTold net o (event x)) last xs rows cuts
    told_of last xs =
        let told = has_told xs in
        let cuts : ℕ = count_by (λ (t : Told). t.cuts) told.0 in
        (cuts, flat_map (λ (t : Told). t.rows) told.0 ++ last xs cuts ∷ [], record { told = told.0; each = told.1; counted = refl; is = refl })

  pub has_sweep : (cuts : ℕ) × (rows : List Row) × Sweeps net cuts rows
  has_sweep = let told = told_of alone sweep_row (failures net) in (told.0, told.1, record { outcome = o; is_outcome = (outcomes net is).1; told = told.2 })

  -- and rows of each part of them
  pub has_part : (part : PartOf) → (cuts : ℕ) × (rows : List Row) × SweepsPart part net cuts rows
  has_part part = let told = told_of alone sweep_row (part_of part (failures net)) in (told.0, told.1, record { outcome = o; is_outcome = (outcomes net is).1; told = told.2 })

  -- and of risks
  pub has_risks : (risks : List Event) → (cuts : ℕ) × (rows : List Row) × SweepsRisks net risks cuts rows
  has_risks risks = let told = told_of (λ event. event) risks_row risks in (told.0, told.1, record { outcome = o; is_outcome = (outcomes net is).1; told = told.2 })
