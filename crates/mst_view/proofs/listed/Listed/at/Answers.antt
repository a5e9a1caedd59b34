use Rattle.std.proofs.Common.{◌≡◌, nat_eq, Some, sym, ap, ◌∙◌, arith}
use Rattle.std.proofs.lemmas.Grind.{common_steps}
use Rattle.std.specs.List.{find, slice_get}
use Rattle.std.specs.Option.{option_and_then}
use Rattle.mst_view.specs.Places.{place_in}
use Rattle.mst_view.proofs.Placing.{item_is, places_found}
use Rattle.mst_view.proofs.listed.Listed.at.Goals as goal

pub returns-in_err-place : goal.returns-in_err-place
returns-in_err-place g c =
    let found = places_found g.T.Numbered.number c.self.inside.items.items (place_in c.self.inside.places.items) c.self.invariant c.args.number in
    grind (arith, common_steps, found)

pub returns : goal.returns
returns g c =
    let items = c.self.inside.items.items in
    let found = places_found g.T.Numbered.number items (place_in c.self.inside.places.items) c.self.invariant c.args.number in
    let there : place_in c.self.inside.places.items c.args.number ≡ Some c.in_ok-place.place = grind (arith, common_steps) in
    let got = item_is c.deref-2.result.now c.in_ok-place.place c.get-2.result c.get-2.ensures.lookup ∙ ap (λ xs. slice_get xs c.in_ok-place.place) c.deref-2.ensures.value in
    got ∙ sym (ap (option_and_then (slice_get items)) there) ∙ found ∙ ap (λ xs. find (λ x. nat_eq c.args.number (g.T.Numbered.number x)) xs) c.self.view_is
