-- What is told of a path is there, and is one thing.
use Rattle.std.proofs.Common.{◌≡◌, Bool, true, false, ◌||◌, nat_lt, List, [], ◌∷◌, ◌++◌, map, Option, refl, sym, ap, subst, ◌∙◌}
use Rattle.std.specs.List.{flat_map, fold}
use Rattle.mst_net.specs.tables.Tables.{Net, IsNetwork}
use Rattle.mst_path.specs.PathRows.{path_rows}
use Rattle.mst_path.specs.Paths.{Hop}
use Rattle.mst_rows.specs.Rows.{Row}
use Rattle.mst_sweeping.specs.sweep.Failures.{failures}
use Rattle.mst_tracing.specs.Fates.{AreFates, HasPathIn, Told, counted_with, counts_row, looked_at, none_counted}
use Rattle.mst_tracing.specs.Tracing.{AreToldIf, Traces, is_none}
use Rattle.mst_tracing.specs.declared.always.Fates.{Fates}
use Rattle.mst_tracing.specs.declared.asked.Asked.{Asked}
use Rattle.mst_path.specs.declared.trace.Trace.{Trace}
use Rattle.mst_tracing.proofs.FateThere.{HasOutcome, HasPath, fates_there, path_in}
use Rattle.mst_tracing.proofs.OneFate.{OneOutcome, OnePath, one_list, one_path_in}

pub trace_there : HasOutcome → HasPath → (net : Net) (asked : Asked) → IsNetwork net → (is_broken : Bool) × (rows : List Row) × Traces net asked is_broken rows
trace_there outcomes paths net asked is =
    let told = behind asked.is_always in (
      told.0,
      path_rows asked.trace path.0 ++ told.1,
      record { path = path.0; has_path = path.1; behind = told.1; told = told.2; are = refl },
    )
  where
    path : (path : Option (List Hop)) × HasPathIn net asked.trace path
    path = path_in outcomes paths net asked.trace is

    behind : (always : Bool) → (is_broken : Bool) × (rows : List Row) × AreToldIf always net asked path.0 is_broken rows
    behind false = (is_none path.0, [], (refl, refl))
    behind true = let all = fates_there outcomes paths net is asked.trace path.0 in ((is_none path.0 || nat_lt 0 all.0.nones), all.1, record { fates = all.0; are_fates = all.2; broken = refl })

module _ (outcomes : OneOutcome) (paths : OnePath) (net : Net) (asked : Asked) (is : IsNetwork net) where
  one_fates : (path : Option (List Hop)) (x y : Fates) (rows others : List Row) → AreFates net asked.trace path x rows → AreFates net asked.trace path y others → (x ≡ y) × (rows ≡ others)
  one_fates path x y rows others p q =
      let t : Trace = asked.trace in
      let told : p.told ≡ q.told = one_list outcomes paths net is t path (looked_at t (failures net)) p.told q.told p.each q.each in
      let fates : x ≡ y = p.counted ∙ ap (λ (l : List Told). fold counted_with none_counted (map (λ (one : Told). one.fate) l)) told ∙ sym q.counted in (
        fates,
        p.are ∙ (λ i. flat_map (λ (one : Told). one.rows) (told i) ++ counts_row t (fates i) ∷ []) ∙ sym q.are,
      )

  one_behind : (always : Bool) (path : Option (List Hop)) (broken other : Bool) (rows others : List Row) → AreToldIf always net asked path broken rows → AreToldIf always net asked path other others → (broken ≡ other) × (rows ≡ others)
  one_behind false path broken other rows others p q = (p.0 ∙ sym q.0, p.1 ∙ sym q.1)
  one_behind true path broken other rows others p q =
      let one = one_fates path p.fates q.fates rows others p.are_fates q.are_fates in
      (p.broken ∙ ap (λ (f : Fates). is_none path || nat_lt 0 f.nones) one.0 ∙ sym q.broken, one.1)

  pub one_told : (broken other : Bool) (rows others : List Row) → Traces net asked broken rows → Traces net asked other others → (broken ≡ other) × (rows ≡ others)
  one_told broken other rows others p q =
      let same : q.path ≡ p.path = one_path_in outcomes paths net asked.trace q.path p.path is q.has_path p.has_path in
      let one = one_behind asked.is_always p.path broken other p.behind q.behind p.told (subst (λ path. AreToldIf asked.is_always net asked path other q.behind) same q.told) in
      let behind = one.1 in
      (one.0, p.are ∙ (λ i. path_rows asked.trace (sym same i) ++ behind i) ∙ sym q.are)
