use Rattle.std.proofs.Common.{◌≡◌, ℕ, ◌++◌, List, codes, append_assoc, ap, ◌∙◌}
use Rattle.std.specs.List.{flat_map}
use Rattle.std.proofs.lemmas.Result.{on_ok_weaker}
use Rattle.mst_picture.specs.Picture.{opening, closing}
use Rattle.mst_picture.specs.InView.{bridge_of, lan_of}
use Rattle.mst_picture.specs.declared.ends.Drawn.TheVariants.{Tree}
use Rattle.mst_picture.proofs.Named.{picture_named}
use Rattle.mst_picture.proofs.picture.push_picture.Goals as goal

regrouped : (out first bridges lans last : List ℕ) → (((out ++ first) ++ bridges) ++ lans) ++ last ≡ out ++ (((first ++ bridges) ++ lans) ++ last)
regrouped out first bridges lans last = simp append_assoc

pub returns : goal.returns
returns c =
    let s = c.args.plan.now in
    let tree = c.args.tree in
    let out = c.args.out.now.items in
    let B : List ℕ = flat_map (bridge_of s tree) s.view.bridges in
    let L : List ℕ = flat_map (lan_of s (Tree tree)) s.view.lans in
    let one = c.in_ok-push_opening.ensures {u = tt} ∙ ap (λ n. out ++ opening (codes "tree ") n) c.value.ensures.value in
    let two = c.in_ok-push_bridges.ensures {u = tt} ∙ ap (λ t. t ++ B) one in
    let three = c.in_ok-push_lans.ensures {u = tt} ∙ ap (λ t. t ++ L) two in
    on_ok_weaker c.push_bytes.result
    (λ last. last ∙ ap (λ t. t ++ closing) three ∙ regrouped out (opening (codes "tree ") tree) B L closing ∙ ap (λ t. out ++ t) (picture_named s c.known.ensures tree)) c.push_bytes.ensures.ok
