-- Something becomes of a path after each failure.
use Rattle.std.proofs.Common.{inl, inr, ℕ, List, [], ◌∷◌, ◌++◌, map, Option, refl}
use Rattle.std.specs.List.{AllZip, flat_map, fold}
use Rattle.mst_net.specs.tables.Tables.{Net, IsNetwork}
use Rattle.mst_path.specs.Paths.{Hop, IsPathOf}
use Rattle.mst_path.specs.declared.trace.Trace.{Trace}
use Rattle.mst_roles.specs.forest.Outcome.{Outcome, IsOutcome}
use Rattle.mst_rows.specs.Rows.{Row}
use Rattle.mst_sweeping.specs.sweep.Failures.{failures, failed}
use Rattle.mst_sweeping.specs.sweep.declared.failure.Failure.{Failure}
use Rattle.mst_sweeping.proofs.sweep_lemmas.Together.{failed_network}
use Rattle.mst_tracing.specs.Fates.{AreFates, HasPathIn, IsFate, IsFateTold, Told, counted_with, counts_row, looked_at, none_counted}
use Rattle.mst_tracing.specs.declared.always.Fate.{Fate}
use Rattle.mst_tracing.specs.declared.always.Fates.{Fates}
use Rattle.mst_tracing.proofs.Fated.{other_fate, same_fate}
use Rattle.mst_tracing.proofs.OneFate.{told_or_not}

abbrev pub HasOutcome : Type 0
HasOutcome = (net : Net) → IsNetwork net → (o : Outcome) × IsOutcome net o

abbrev pub HasPath : Type 0
HasPath = (net : Net) (o : Outcome) (vid : ℕ) (a b : List ℕ) → IsNetwork net → (path : Option (List Hop)) × IsPathOf net o vid a b path

module _ (outcomes : HasOutcome) (paths : HasPath) where
  pub path_in : (net : Net) (t : Trace) → IsNetwork net → (path : Option (List Hop)) × HasPathIn net t path
  path_in net t is =
      let o = outcomes net is in
      let p = paths net o.0 t.vid t.from t.to is in
      (p.0, record { outcome = o.0; is_outcome = o.1; is_path = p.1 })

  module _ (net : Net) (is : IsNetwork net) (t : Trace) (before : Option (List Hop)) where
    fate_there : (failure : Failure) (now : Option (List Hop)) → (fate : Fate) × (rows : List Row) × IsFate t failure before now fate rows
    fate_there failure now = elim (told_or_not before now) [ inl e ↦ (_, _, same_fate t failure before now e) | inr n ↦ (_, _, other_fate t failure before now n) ]

    told_there : (those : List Failure) → (told : List Told) × AllZip (λ failure one. IsFateTold net t before failure one.fate one.rows) those told
    told_there [] = ([], tt)
    told_there (f ∷ fs) =
        let new : Net = failed (f ∷ []) net in
        let path = path_in new t (failed_network (f ∷ []) net is) in
        let fate = fate_there f path.0 in
        let rest = told_there fs in (
          record { fate = fate.0; rows = fate.1 } ∷ rest.0,
          (record { path = path.0; has_path = path.1; told = fate.2 }, rest.1),
        )

    pub fates_there : (fates : Fates) × (rows : List Row) × AreFates net t before fates rows
    fates_there =
        let told = told_there (looked_at t (failures net)) in
        let fates : Fates = fold counted_with none_counted (map (λ (one : Told). one.fate) told.0) in
        (fates, flat_map (λ (one : Told). one.rows) told.0 ++ counts_row t fates ∷ [], record { told = told.0; each = told.1; counted = refl; are = refl })
