use Rattle.std.proofs.Common.{◌≡◌, ℕ, ◌++◌, List, codes, append_assoc, refl, ap, ◌∙◌}
use Rattle.std.specs.List.{flat_map}
use Rattle.std.proofs.lemmas.Result.{on_ok_weaker}
use Rattle.mst_roles.specs.forest.Settled.{outcome_of}
use Rattle.mst_picture.specs.InView.{lan_of, off_of}
use Rattle.mst_picture.specs.Picture.{opening, closing}
use Rattle.mst_picture.specs.VlanPicture.{clusters, vlan_picture}
use Rattle.mst_picture.specs.declared.ends.Drawn.TheVariants.{Vlan}
use Rattle.mst_picture.proofs.Named.{vlan_picture_named}
use Rattle.mst_picture.proofs.vlan_picture.push_vlan_picture.Goals as goal

regrouped : (out first islands off lans last : List ℕ) → ((((out ++ first) ++ islands) ++ off) ++ lans) ++ last ≡ out ++ ((((first ++ islands) ++ off) ++ lans) ++ last)
regrouped out first islands off lans last = simp append_assoc

pub returns : goal.returns
returns c =
    let s = c.args.plan.now in
    let o = outcome_of s in
    let vid = c.args.vid in
    let out = c.args.out.now.items in
    let i = c.in_ok-push_islands.ensures {u = tt} in
    let C : List ℕ = clusters s.net o vid i.0 in
    let F : List ℕ = flat_map off_of s.view.bridges in
    let L : List ℕ = flat_map (lan_of s (Vlan vid)) s.view.lans in
    let one = c.in_ok-push_opening.ensures {u = tt} ∙ ap (λ n. out ++ opening (codes "vlan ") n) c.value.ensures.value in
    let two = i.2 ∙ ap (λ t. t ++ C) one in
    let three = c.in_ok-push_off.ensures {u = tt} ∙ ap (λ t. t ++ F) two in
    let four = c.in_ok-push_lans.ensures {u = tt} ∙ ap (λ t. t ++ L) three in
    on_ok_weaker c.push_bytes.result
    (λ last. (
      vlan_picture s.net o vid i.0,
      record { islands = i.0; are_islands = i.1; is = refl },
      last ∙ ap (λ t. t ++ closing) four ∙ regrouped out (opening (codes "vlan ") vid) C F L closing ∙ ap (λ t. out ++ t) (vlan_picture_named s c.known.ensures vid i.0),
    ))
    c.push_bytes.ensures.ok
