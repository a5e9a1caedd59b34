use Rattle.std.proofs.Common.{◌≡◌, ℕ, List, ◌++◌, append_assoc, ap, ◌∙◌}
use Rattle.std.specs.List.{flat_map}
use Rattle.std.proofs.lemmas.Result.{on_ok_weaker}
use Rattle.mst_picture.specs.InView.{node_at}
use Rattle.mst_picture.specs.VlanPicture.{cluster_closing, cluster_opening}
use Rattle.mst_picture.proofs.clusters.push_cluster.Goals as goal

regrouped : (out first nodes last : List ℕ) → ((out ++ first) ++ nodes) ++ last ≡ out ++ ((first ++ nodes) ++ last)
regrouped out first nodes last = simp append_assoc

pub returns : goal.returns
returns c =
    let out = c.args.out.now.items in
    let bridges = c.args.island.now.bridges in
    let nodes : List ℕ → List ℕ = flat_map (node_at c.args.plan.now c.args.vid) in
    let first : List ℕ = cluster_opening c.args.number in
    let one = c.in_ok-push_cluster_opening.ensures {u = tt} in
    let two : c.push_nodes.new.out.items ≡ (out ++ first) ++ nodes bridges = c.in_ok-push_nodes.ensures {u = tt} ∙ (λ i. one i ++ nodes (c.as_slice.ensures i)) in
    on_ok_weaker c.push_bytes.result (λ last. last ∙ ap (λ t. t ++ cluster_closing) two ∙ regrouped out first (nodes bridges) cluster_closing) c.push_bytes.ensures.ok
