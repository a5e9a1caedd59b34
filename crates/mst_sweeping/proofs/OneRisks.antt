-- What risks do is one list of rows, whichever settled outcome it is made by.
use Rattle.std.proofs.Common.{◌≡◌, ℕ, Bool, List, [], ◌∷◌, ◌++◌, sym, ap, ◌∙◌}
use Rattle.std.specs.List.{count_by, flat_map}
use Rattle.mst_net.specs.tables.Tables.{Net, IsNetwork}
use Rattle.mst_rows.specs.Rows.{Row}
use Rattle.mst_plan.specs.forest.Outcome.{Outcome, IsOutcome}
use Rattle.mst_sweep.specs.declared.event.Cause.{Cause}
use Rattle.mst_sweep.specs.Failures.{Event, failed}
use Rattle.mst_sweep.specs.SweepText.{AreEventRows, IsRiskSweep, IsTold, Told, risks_row}
use Rattle.mst_sweep.proofs.OneSweep.{zip_same}
use Rattle.mst_sweep.proofs.Together.{failed_network}

module _ (net : Net) (ok : IsNetwork net) (o p : Outcome) (is : IsOutcome net o) (are : IsOutcome net p)
    (one : (a b : Net) (o p q r : Outcome) → IsNetwork a → IsNetwork b → IsOutcome a o → IsOutcome b p → IsOutcome a q → IsOutcome b r
    → (cause : Cause) (rows other : List Row) (c d : Bool) → AreEventRows a o b p cause rows c → AreEventRows a q b r cause other d → (rows ≡ other) × (c ≡ d)) where
  told_same : (event : Event) (t u : Told) → IsTold net o event t → IsTold net p event u → t ≡ u
  told_same event t u x y =
      let both = one net (failed event.failures net) o x.outcome p y.outcome ok (failed_network event.failures net ok) is x.is_outcome are y.is_outcome event.cause t.rows u.rows t.cuts u.cuts x.is y.is in
      let rows = both.0 in
      let cuts = both.1 in
      λ i. record { rows = rows i; cuts = cuts i }

  pub one_risks : (risks : List Event) (rows other : List Row) (c d : ℕ) → IsRiskSweep net o risks rows c → IsRiskSweep net p risks other d → (rows ≡ other) × (c ≡ d)
  one_risks risks rows other c d x y =
      let same : x.told ≡ y.told = zip_same (IsTold net o) (IsTold net p) risks x.told y.told (λ event h. told_same event) x.each y.each in
      let count : c ≡ d = x.counted ∙ ap (count_by (λ (t : Told). t.cuts)) same ∙ sym y.counted in
      (x.is ∙ (λ i. flat_map (λ (t : Told). t.rows) (same i) ++ risks_row risks (count i) ∷ []) ∙ sym y.is, count)
