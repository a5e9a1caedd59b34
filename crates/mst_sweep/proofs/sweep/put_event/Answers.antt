use Rattle.std.proofs.Common.{◌≡◌, ℕ, List, ◌∷◌, ◌++◌, [], refl, sym, ap, subst, ◌∙◌, append_assoc}
use Rattle.mst_ids.specs.Vids.{runs_from, set_where}
use Rattle.mst_view.specs.Trees.{is_among}
use Rattle.mst_graph.specs.Lists.{has_any}
use Rattle.mst_rows.specs.Rows.{Row}
use Rattle.mst_sweep.specs.declared.cuts.CutBy.TheVariants.{One}
use Rattle.mst_sweep.specs.Cuts.{rows_of, runs_of}
use Rattle.mst_sweep.specs.Left.{AreLeft}
use Rattle.mst_sweep.specs.Moved.{moved_roots, moved_ports}
use Rattle.mst_sweep.specs.SweepText.{event_row}
use Rattle.mst_sweep.specs.Touched.{AreTouched, ArePlaces, AreWhereTouched}
use Rattle.mst_sweep.proofs.Failed.{are_left}
use Rattle.mst_sweep.proofs.Unlinked.{where_touched}
use Rattle.mst_sweep.proofs.sweep.put_event.Goals as goal

pub returns : goal.returns
returns g c a b n k is are of so e =
    let cause = c.args.event.now.cause in
    let left = subst (AreLeft a) e (are_left c.args.event.now.failures a) in
    let cuts = c.in_ok-cuts.cuts in
    let vids : List ℕ = cuts.vids.items in
    let classes : List ℕ = c.args.baseline.now.classes.numbers.items in
    let told = c.in_ok-cuts.ensures.cut a b n k is are of so left cause in
    let R : List ℕ = moved_roots a is.outcome b are.outcome in
    let P : ℕ = moved_ports a is.outcome b are.outcome in
    let roots : c.as_slice-3.result.now ≡ R = c.as_slice-3.ensures.value ∙ c.in_ok-roots.ensures a b n k is are of so in
    let ports : c.moved_ports-ports.result ≡ P = c.moved_ports-ports.ensures a b n k is are of so left in
    let runs : runs_from 0 c.set_of.result ≡ runs_of vids = ap (runs_from 0) (c.set_of.ensures ∙ ap (λ l. set_where (is_among l)) c.as_slice-vids.ensures.value) in
    let said : c.cause-cause.result.now ≡ cause = c.cause-cause.ensures in
    let row = event_row c.cause-cause.result.now c.as_slice-3.result.now c.moved_ports-ports.result (runs_from 0 c.set_of.result) in
    let cut = rows_of (One cause) classes cuts in (
      event_row cause R P (runs_of vids) ∷ cut,
      record { vids = vids; cut = cut; are_cuts = told; some = c.are_some.ensures ∙ ap has_any c.as_slice-vids.ensures.value; are = refl },
      λ first rows grew.
          subst (λ (all : List Row). g.R.Rows.grew first c.put_cuts.new.out all)
          (append_assoc rows (row ∷ []) (rows_of (One c.cause-cause.result.now) classes cuts)
          ∙ (λ i. rows ++ event_row (said i) (roots i) (ports i) (runs i) ∷ rows_of (One (said i)) classes cuts))
          (c.in_ok-put_cuts.ensures first (rows ++ row ∷ []) (c.in_ok-put_event_row.ensures first rows grew)),
    )

pub moved_ports-ports-requires-clause-touched : goal.moved_ports-ports-requires-clause-touched
moved_ports-ports-requires-clause-touched g c =
    subst (AreTouched c.args.old.now.view.now c.args.old.now.forest.now c.args.new.now.view.now c.args.new.now.forest.now) (sym c.as_slice-touched.ensures.value) c.in_ok-flags.ensures.touched

pub cuts_by_failures-requires-clause-touched : goal.cuts_by_failures-requires-clause-touched
cuts_by_failures-requires-clause-touched g c =
    let v = c.args.old.now.view.now in
    let f = c.args.old.now.forest.now in
    let w = c.args.new.now.view.now in
    let h = c.args.new.now.forest.now in
    let places : List ℕ = c.in_ok-places.places.items in
    let are : ArePlaces c.in_ok-flags.flags.items places = subst (λ flags. ArePlaces flags places) c.as_slice-touched.ensures.value c.in_ok-places.ensures in
    let kept : AreWhereTouched v f w h places = where_touched v w f h c.in_ok-flags.flags.items places (sym c.in_ok-flags.flags.ok.0 ∙ c.in_ok-flags.ensures.as_long) c.in_ok-flags.ensures.touched are in
    subst (AreWhereTouched v f w h) (sym c.as_slice-where_touched.ensures.value) kept
