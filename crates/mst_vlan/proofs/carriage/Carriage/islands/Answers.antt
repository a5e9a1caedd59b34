use Rattle.std.proofs.Common.{◌≡◌, map, refl, ap, subst, ◌∙◌}
use Rattle.std.proofs.lemmas.Result.{IfOk-weaker}
use Rattle.mst_roles.specs.forest.Agrees.{Known}
use Rattle.mst_vlan.specs.Seen.{seen_bridges, seen_lans, as_island}
use Rattle.mst_vlan.proofs.Reached.{reached}
use Rattle.mst_vlan.specs.Carried.{ViewWithTrees}
use Rattle.mst_vlan.proofs.Links.{have_ends, are_islands}
use Rattle.mst_vlan.proofs.carriage.Carriage.islands.Goals as goal

pub islands_of-requires : goal.islands_of-requires
islands_of-requires c =
    let s : ViewWithTrees = c.args.self.now in
    let is : (let t : ViewWithTrees = record { view = c.self.inside.view.now; forest = c.self.inside.forest.now } in t) ≡ s = c.self.view_is in
    have_ends s (subst (λ (s : ViewWithTrees). Known s.view s.forest.regions) is c.self.invariant.known) c.args.vid c.as_slice.result.now c.as_slice-2.result.now c.as_slice-3.result.now
    (c.as_slice.ensures.value ∙ c.self.invariant.bridges ∙ ap (λ (s : ViewWithTrees). seen_bridges s.view) is) (c.as_slice-2.ensures.value ∙ c.self.invariant.lans ∙ ap (λ (s : ViewWithTrees). seen_lans s.view) is)
    (c.as_slice-3.ensures.value ∙ c.in_ok-links.ensures)

pub returns : goal.returns
returns c =
    let s : ViewWithTrees = c.args.self.now in
    let is : (let t : ViewWithTrees = record { view = c.self.inside.view.now; forest = c.self.inside.forest.now } in t) ≡ s = c.self.view_is in
    IfOk-weaker c.islands_of.result _ _
    (λ islands are net numbers is_forest of.
    reached net numbers s.view s.forest of is_forest c.args.vid (map as_island islands.items)
    (are_islands s c.args.vid c.as_slice.result.now c.as_slice-2.result.now c.as_slice-3.result.now
    (c.as_slice.ensures.value ∙ c.self.invariant.bridges ∙ ap (λ (s : ViewWithTrees). seen_bridges s.view) is) (c.as_slice-2.ensures.value ∙ c.self.invariant.lans ∙ ap (λ (s : ViewWithTrees). seen_lans s.view) is)
    (c.as_slice-3.ensures.value ∙ c.in_ok-links.ensures) (map as_island islands.items) are)
    islands.items refl) c.islands_of.ensures
