use Rattle.std.proofs.Common.{◌≡◌, ◌<◌, ℕ, ◌+◌, Bool, false, List, filter, length, sym, ap, subst, ◌∙◌}
use Rattle.std.specs.List.{All, AllZip, Contains}
use Rattle.std.proofs.lemmas.Result.{IfOk-weaker}
use Rattle.mst_vlan.proofs.forest_lemmas.Entries.{all_weaker}
use Rattle.mst_vlan.proofs.forest_lemmas.Lists.{all_contained, all_there}
use Rattle.mst_vlan.proofs.forest_lemmas.Looking.{filter_alike}
use Rattle.mst_vlan.specs.forest.Settled.{outcome_of}
use Rattle.mst_vlan.specs.classes.AllVids.{all_vids}
use Rattle.mst_vlan.proofs.classes_lemmas.VidPlaces.{is_vid_there}
use Rattle.mst_vlan.proofs.Renumbered.{all_members}
use Rattle.mst_vlan.specs.Carried.{ViewWithTrees}
use Rattle.mst_summary.specs.Carries.{goes_over, carried}
use Rattle.mst_vlan.specs.classes.Flags.{flag_at}
use Rattle.mst_summary.specs.Places.{places_on, with_places}
use Rattle.mst_summary.specs.Seen.{seen_on, seen_over}
use Rattle.mst_summary.proofs.Named.{over_named}
use Rattle.mst_summary.proofs.PlacesOn.{over_places, places_below}
use Rattle.mst_summary.proofs.VidClasses.{AtPlaces, things_have, over_alike}
use Rattle.mst_summary.proofs.carries.carried.Goals as goal

pub flags_at-requires-clause-ports : goal.flags_at-requires-clause-ports
flags_at-requires-clause-ports c =
    let h = c.args.kept.now in
    let lan : List ℕ = c.args.lan.now in
    let places : c.group_for-ports.result.now ≡ places_on h.plan.now.view lan = c.group_for-ports.ensures ∙ h.are_places lan in
    subst (λ (w : ViewWithTrees). All (λ place. place < length w.view.ports) c.group_for-ports.result.now) (sym h.is_carriage)
    (subst (All (λ place. place < length h.plan.now.view.ports)) (sym places) (all_members (λ place. place < length h.plan.now.view.ports) (places_on h.plan.now.view lan) (λ place there. all_contained (λ place. place < length h.plan.now.view.ports) (places_on h.plan.now.view lan) place (places_below h.plan.now.view lan) there)))

pub returns : goal.returns
returns c = IfOk-weaker c.flagged.result _ _
    (λ carried_here told.
    let h = c.args.kept.now in
    let s = h.plan.now in
    let v = s.view in
    let f = s.forest in
    let o = outcome_of s in
    let cs = h.classes.now in
    let k = c.requires in
    let lan : List ℕ = c.args.lan.now in
    let classes : List ℕ = cs.numbers.items in
    let flags : List Bool = c.in_ok-flags.flags.items in
    let R : ℕ → Bool → Type 0 = λ vid flag. flag ≡ seen_over v f (seen_on v lan) vid in
    let places : c.group_for-ports.result.now ≡ places_on v lan = c.group_for-ports.ensures ∙ h.are_places lan in
    let here = subst (λ (w : ViewWithTrees). AllZip (λ place flag. flag ≡ (with_places w.view w.forest (place + 1) c.group_for-ports.result.now).is_of_two) c.as_slice.result.now flags) h.is_carriage c.in_ok-flags.ensures.flags in
    let seen : AllZip (λ place flag. flag ≡ (with_places v f (place + 1) (places_on v lan)).is_of_two) cs.firsts.items flags =
    subst (λ firsts. AllZip (λ place flag. flag ≡ (with_places v f (place + 1) (places_on v lan)).is_of_two) firsts flags) c.as_slice.ensures.value
    (subst (λ ports. AllZip (λ place flag. flag ≡ (with_places v f (place + 1) ports).is_of_two) c.as_slice.result.now flags) places here) in
    let at : AtPlaces R cs.firsts.items flags = subst (λ (over : ℕ → Bool). AllZip (λ place flag. flag ≡ over (place + 1)) cs.firsts.items flags) (λ i vid. over_places v f vid lan i) seen in
    let have = things_have R false v cs k (λ x y alike flag h. h ∙ over_alike v cs k x y alike f lan) flags at in
    let all : filter (flag_at classes flags) all_vids ≡ carried s.net o lan =
    filter_alike (flag_at classes flags) (goes_over s.net o lan) all_vids
    (all_weaker (Contains all_vids) _ (λ vid there. have vid (is_vid_there vid there) ∙ over_named s c.known.ensures lan vid) all_vids (all_there all_vids)) in
    told ∙ (λ i. filter (flag_at (c.as_slice-2.ensures.value i) (c.as_slice-3.ensures.value i)) (h.are_vids i)) ∙ all) c.flagged.ensures
