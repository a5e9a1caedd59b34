use Rattle.std.proofs.Common.{◌≡◌, ◌<◌, ℕ, List, Option, None, map, length, get_or, sym, ap, ◌∙◌, subst}
use Rattle.std.proofs.lemmas.List.{get_or-map, length-map, get_or_default}
use Rattle.std.proofs.lemmas.Result.{IfOk-weaker}
use Rattle.mst_view.specs.Viewed.{named_port}
use Rattle.mst_view.specs.declared.in_view.PortInView.{PortInView}
use Rattle.mst_path.specs.Counts.{hops_at}
use Rattle.mst_path.specs.Paths.{IsHopCount}
use Rattle.mst_path.specs.Places.{bridge_at}
use Rattle.mst_path.proofs.Counted.{counted_at}
use Rattle.mst_path.proofs.Slices.{tree_of}
use Rattle.mst_path.proofs.counting.hop_counts.Goals as goal

pub counted-requires : goal.counted-requires
counted-requires c =
    let n = c.requires.nodes in
    let nodes = c.args.nodes.now in
    let long : length c.as_slice.result.now ≡ nodes.count = ap length c.as_slice.ensures.value ∙ c.in_ok-depths.ensures.count in
    λ i d l. subst (λ k. get_or c.as_slice-bridges.result.now i d < k) (sym long)
    (subst (λ (b : List ℕ). get_or b i d < nodes.count) (sym c.as_slice-bridges.ensures.value)
    (let below : i < length nodes.bridges.items = subst (λ (b : List ℕ). i < length b) c.as_slice-bridges.ensures.value l in
    subst (λ x. x < nodes.count) (get_or_default nodes.bridges.items i 0 d below) (n.nodes.bridges_below i below)))

pub returns : goal.returns
returns c =
    let ports : List PortInView = c.args.ports.now in
    let nodes = c.args.nodes.now in
    let bridges : List ℕ = nodes.bridges.items in
    let lans : List ℕ = nodes.lans.items in
    let n = c.requires.nodes in
    let depths : List ℕ = c.in_ok-depths.depths.items in
    let f : ℕ → Option ℕ = λ x. hops_at (get_or depths x 0) in
    let tree = tree_of bridges lans c.as_slice-bridges.result.now c.as_slice-lans.result.now depths c.args.to c.as_slice-bridges.ensures.value c.as_slice-lans.ensures.value c.in_ok-depths.ensures.tree in
    let of_slices : map (λ x. hops_at (get_or c.as_slice.result.now x 0)) c.as_slice-bridges.result.now ≡ map f bridges = λ i. map (λ x. hops_at (get_or (c.as_slice.ensures.value i) x 0)) (c.as_slice-bridges.ensures.value i) in
    IfOk-weaker c.counted.result _ _
    (λ counts e. (let are : counts.items ≡ map f bridges = e ∙ of_slices in record {
      as_long = ap length are ∙ length-map bridges f ∙ n.for_each;
      each = λ place below.
          let inside : place < length bridges = subst (λ k. place < k) (sym n.for_each) below in
          subst (IsHopCount (map named_port ports) (bridge_at ports place) (bridge_at ports c.args.to)) (sym (ap (λ (l : List (Option ℕ)). get_or l place None) are ∙ get_or-map f bridges place 0 None inside))
          (counted_at ports bridges lans nodes.count n depths c.args.to c.requires.to tree place below);
    }))
    c.counted.ensures
