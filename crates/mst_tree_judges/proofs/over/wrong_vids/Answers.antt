use Rattle.std.proofs.Common.{◌≡◌, ℕ, ◌+◌, Bool, false, List, filter, ap, subst, ◌∙◌}
use Rattle.std.specs.List.{AllZip, Contains}
use Rattle.std.proofs.lemmas.Result.{IfOk-weaker}
use Rattle.mst_graph.proofs.Members.{from_filter}
use Rattle.mst_ids.specs.Vids.{has}
use Rattle.mst_roles.proofs.forest_lemmas.Entries.{all_weaker}
use Rattle.mst_roles.proofs.forest_lemmas.Lists.{all_there}
use Rattle.mst_roles.proofs.forest_lemmas.Looking.{filter_alike}
use Rattle.mst_roles.specs.forest.Settled.{outcome_of}
use Rattle.mst_judged.specs.reasons.sweep.vlan.classes.AllVids.{all_vids}
use Rattle.mst_judged.proofs.reasons_lemmas.sweep_lemmas.vlan_lemmas.classes_lemmas.VidPlaces.{is_vid_there}
use Rattle.mst_judged.specs.reasons.sweep.vlan.classes.Flags.{flag_at}
use Rattle.mst_judged.specs.reasons.summary.Seen.{seen_on, seen_over}
use Rattle.mst_judged.proofs.reasons_lemmas.summary_lemmas.VidClasses.{AtPlaces, things_have, over_alike}
use Rattle.mst_judged.specs.reasons.Named.{vids_in}
use Rattle.mst_judged.specs.reasons.Over.{goes_over, is_wrong}
use Rattle.mst_tree_judges.specs.Seen.{seen_logical}
use Rattle.mst_tree_judges.proofs.OverNamed.{over_named}
use Rattle.mst_tree_judges.proofs.over.wrong_vids.Goals as goal

pub returns : goal.returns
returns c = IfOk-weaker c.flagged.result _ _
    (λ wrong told.
    let s = c.args.judged.now.plan.now in
    let v = s.view in
    let f = s.forest in
    let o = outcome_of s in
    let cs = c.args.judged.now.before.now.classes in
    let k = c.requires.kept.classes in
    let lan : List ℕ = c.args.lan.now in
    let own : List ℕ = seen_logical v lan in
    let wanted = c.args.is_wanted in
    let vids = c.args.vids.now in
    let flags : List Bool = c.in_ok-flags.flags.items in
    let numbers : List ℕ = cs.numbers.items in
    let R : ℕ → Bool → Type 0 = λ vid flag. flag ≡ is_wrong wanted (seen_over v f (seen_on v own) vid) in
    let logical : c.logical_lan-logical.result ≡ own = c.logical_lan-logical.ensures ∙ ap (λ v. seen_logical v lan) c.view.ensures in
    let ports : c.as_slice.result.now ≡ seen_on v own = c.as_slice.ensures.value ∙ c.in_ok-ports.ensures ∙ (λ i. seen_on (c.view-2.ensures i) (logical i)) in
    let at : AtPlaces R cs.firsts.items flags =
    subst (λ places. AtPlaces R places flags) c.as_slice-places.ensures.value
    (subst (λ ports. AllZip (λ place flag. flag ≡ is_wrong wanted (seen_over v f ports (place + 1))) c.as_slice-places.result.now flags) ports c.in_ok-flags.ensures.flags) in
    let have = things_have R false v cs k (λ x y alike flag h. h ∙ ap (is_wrong wanted) (over_alike v cs k x y alike f own)) flags at in
    let same = λ (vid : ℕ) (h : Contains (vids_in vids) vid). have vid (is_vid_there vid (from_filter (has vids) all_vids vid h).0) ∙ ap (is_wrong wanted) (over_named s c.known.ensures lan c.requires.lan vid) in
    told
    ∙ (λ i. filter (flag_at (c.as_slice-numbers.ensures.value i) (c.as_slice-3.ensures.value i)) ((c.as_slice-2.ensures.value ∙ c.in_ok-vids.ensures) i))
    ∙ filter_alike (flag_at numbers flags) (λ vid. is_wrong wanted (goes_over s.net o lan vid)) (vids_in vids) (all_weaker (Contains (vids_in vids)) _ same (vids_in vids) (all_there (vids_in vids)))) c.flagged.ensures
