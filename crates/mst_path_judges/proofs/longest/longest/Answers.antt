use Rattle.std.proofs.Common.{◌∙◌, ℕ, List, map, sym, ap, subst}
use Rattle.std.proofs.lemmas.Result.{IfOk-weaker}
use Rattle.mst_roles.specs.forest.Settled.{outcome_of}
use Rattle.mst_judged.specs.reasons.Stretches.{HasLongest}
use Rattle.mst_view.specs.Viewed.{named_port}
use Rattle.mst_path_judges.specs.Longest.{ArePlacesOf}
use Rattle.mst_path_judges.proofs.Farthest.{longest_of}
use Rattle.mst_path_judges.proofs.Placed.{all_below}
use Rattle.mst_path_judges.proofs.longest.longest.Goals as goal

pub farthest-requires-clause-places : goal.farthest-requires-clause-places
farthest-requires-clause-places c =
    let s = c.args.plan.now in
    let ports = c.as_slice-ports.result.now in
    all_below s.net ports c.args.bridges.now c.as_slice.result.now (subst (ArePlacesOf s.net ports c.args.bridges.now) (sym c.as_slice.ensures.value) c.in_ok-places.ensures)

pub returns : goal.returns
returns c = IfOk-weaker c.told.result _ _
    (λ stretch told.
    let s = c.args.plan.now in
    let ports = c.as_slice-ports.result.now in
    let places : List ℕ = c.as_slice.result.now in
    let named = ap (map named_port) c.as_slice-ports.ensures.value ∙ c.in_ok-carrying.ensures.named in
    let are : ArePlacesOf s.net ports c.args.bridges.now places = subst (ArePlacesOf s.net ports c.args.bridges.now) (sym c.as_slice.ensures.value) c.in_ok-places.ensures in
    subst (HasLongest s.net (outcome_of s) c.args.bridges.now c.args.vid) (sym told)
    (longest_of s.net (outcome_of s) c.args.vid ports named c.args.bridges.now places are c.in_ok-span.span c.in_ok-span.ensures)) c.told.ensures
