use Rattle.std.proofs.Common.{◌≡◌, ◌+◌, ℕ, List, [], ◌∷◌, ◌++◌, Option, Some, None, take, sym, ap, subst, ◌∙◌}
use Rattle.std.specs.Option.{MatchOption}
use Rattle.std.proofs.lemmas.List.{take_all, take_more}
use Rattle.mst_path_judges.specs.Longest.{ArePlacesOf, HasNoPlace, HasPlace}
use Rattle.mst_path_judges.proofs.Placed.{none_placed, passed, placed}
use Rattle.mst_path_judges.proofs.longest.places.Goals as goal
use Rattle.mst_path_judges.proofs.longest.places.Goals.{in-Some+in_ok-push, in_default}

pub loop-bridge-init : goal.loop-bridge-init
loop-bridge-init c =
    let net = c.args.plan.now.net in
    let ports = c.args.ports.now in
    subst (ArePlacesOf net ports []) (sym c.new-places.ensures.items) (none_placed net ports)

pub loop-bridge-preserved : goal.loop-bridge-preserved
loop-bridge-preserved c =
    let l = c.loop-bridge in
    let net = c.args.plan.now.net in
    let ports = c.args.ports.now in
    let bridges : List (List ℕ) = c.args.bridges.now in
    let bridge : List ℕ = c.bridge-item.result in
    let before : List (List ℕ) = take l.bridge-index bridges in
    let more : take (l.bridge-index + 1) bridges ≡ before ++ bridge ∷ [] = take_more bridges l.bridge-index bridge c.loop-bridge-test.true ∙ ap (λ b. before ++ b ∷ []) (sym c.bridge-item.is) in
    let found : (o : Option ℕ) → c.place_of.result ≡ o → MatchOption o (HasNoPlace net ports bridge) (HasPlace net ports bridge) =
    λ o e. subst (λ o. MatchOption o (HasNoPlace net ports bridge) (HasPlace net ports bridge)) e c.place_of.ensures in
    let so : (places : List ℕ) → c.match-place_of.places.items ≡ places → ArePlacesOf net ports (before ++ bridge ∷ []) places → ArePlacesOf net ports (take (l.bridge-index + 1) bridges) c.match-place_of.places.items =
    λ places now are. subst (λ bs. ArePlacesOf net ports bs c.match-place_of.places.items) (sym more) (subst (ArePlacesOf net ports (before ++ bridge ∷ [])) (sym now) are) in
    elim c.match-place_of.branch [
      | in-Some+in_ok-push w ↦
          let place : ℕ = w.in-Some.place in
          so (l.places.items ++ place ∷ []) (ap (λ v. v.items) w.places-is ∙ w.in_ok-push.ensures.items) (placed net ports before bridge l.places.items l.invariant place (found (Some place) w.in-Some.is))
      | in_default w ↦ so l.places.items (ap (λ v. v.items) w.places-is) (passed net ports before bridge l.places.items l.invariant (found None w.in_default.is))
    ]

pub returns : goal.returns
returns c =
    let l = c.loop-bridge in
    subst (λ bs. ArePlacesOf c.args.plan.now.net c.args.ports.now bs l.places.items) (take_all l.bridge-index c.args.bridges.now c.loop-bridge-test.false) l.invariant
