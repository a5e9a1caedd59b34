use Rattle.std.proofs.Common.{◌∙◌, Some, None, cond, nat_eq, ap}
use Rattle.std.specs.List.{slice_index_or}
use Rattle.std.specs.Option.{option_or}
use Rattle.mst_view.specs.Places.{place_in}
use Rattle.mst_view.proofs.Placing.{none_placed, all_placed, noted}
use Rattle.mst_view.proofs.listed.places.Goals as goal

pub loop-place-init : goal.loop-place-init
loop-place-init g c = none_placed g.T.Numbered.number c.args.items.now (place_in c.new-places.result.items) (λ n. ap (λ p. slice_index_or p n None) c.new-places.ensures.items)

pub loop-place-preserved : goal.loop-place-preserved
loop-place-preserved g c =
    let l = c.loop-place in
    noted g.T.Numbered.number c.args.items.now l.place c.index-items-place.result (place_in l.places.items) (place_in c.note.new.places.items)
    c.loop-place-test.true c.index-items-place.is l.invariant
    (λ n. c.in_ok-note.ensures n ∙ ap (λ m. option_or (place_in l.places.items n) (cond (nat_eq n m) (Some l.place) None)) c.number.ensures)

pub returns : goal.returns
returns g c = all_placed g.T.Numbered.number c.args.items.now c.loop-place.place (place_in c.loop-place.places.items) c.loop-place-test.false c.loop-place.invariant
