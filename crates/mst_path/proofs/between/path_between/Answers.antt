use Rattle.std.proofs.Common.{◌≡◌, ◌<◌, ℕ, List, map, length, get_or, refl, sym, ap, ◌∙◌, subst}
use Rattle.std.specs.List.{All}
use Rattle.std.proofs.lemmas.List.{get_or_read}
use Rattle.mst_view.specs.View.{LogicalPort}
use Rattle.mst_view.specs.Viewed.{named_port}
use Rattle.mst_view.specs.declared.in_view.PortInView.{PortInView}
use Rattle.mst_path.specs.Paths.{IsFirstPath}
use Rattle.mst_path.specs.Places.{IsFirstPlacePath, bridge_at}
use Rattle.mst_path.specs.declared.hop.PlaceHop.{PlaceHop}
use Rattle.mst_path.proofs.Named.{all_below, hop_at, none_reached, some_port}
use Rattle.mst_path.proofs.NamedFirst.{first_named}
use Rattle.mst_path.proofs.Slices.{tree_of}
use Rattle.mst_path.proofs.between.path_between.Goals as goal

-- what was found by slices holds of the lists that they show
path_of : (bridges lans b l : List ℕ) (first last : ℕ) (hops : List PlaceHop) → b ≡ bridges → l ≡ lans → IsFirstPlacePath b l (get_or b first 0) (get_or b last 0) hops → IsFirstPlacePath bridges lans (get_or bridges first 0) (get_or bridges last 0) hops
path_of bridges lans b l first last hops e f p = subst (λ b. IsFirstPlacePath b lans (get_or b first 0) (get_or b last 0) hops) e (subst (λ l. IsFirstPlacePath b l (get_or b first 0) (get_or b last 0) hops) f p)

pub returns-then-index-eq0 : goal.returns-then-index-eq0
returns-then-index-eq0 c =
    let ports : List PortInView = c.args.ports.now in
    let bridges : List ℕ = c.in_ok-nodes.nodes.bridges.items in
    let lans : List ℕ = c.in_ok-nodes.nodes.lans.items in
    let count : ℕ = c.in_ok-nodes.nodes.count in
    let n = c.in_ok-nodes.ensures in
    let first : ℕ = c.args.first in
    let last : ℕ = c.args.last in
    let depths : List ℕ = c.in_ok-depths.depths.items in
    let tree = tree_of bridges lans c.as_slice-bridges.result.now c.as_slice-lans.result.now depths last c.as_slice-bridges.ensures.value c.as_slice-lans.ensures.value c.in_ok-depths.ensures.tree in
    let start_is : get_or c.as_slice-bridges.result.now first 0 ≡ get_or bridges first 0 = ap (λ (b : List ℕ). get_or b first 0) c.as_slice-bridges.ensures.value in
    let first_below : first < length bridges = subst (λ k. first < k) (sym n.for_each) c.requires.first in
    let below : get_or c.as_slice-bridges.result.now first 0 < length depths = subst (λ k. get_or c.as_slice-bridges.result.now first 0 < k) (sym c.in_ok-depths.ensures.count) (subst (λ x. x < count) (sym start_is) (n.nodes.bridges_below first first_below)) in
    let zero_is : get_or depths (get_or bridges first 0) 0 ≡ 0 =
    ap (λ x. get_or depths x 0) (sym start_is) ∙ sym (get_or_read depths (get_or c.as_slice-bridges.result.now first 0) c.index.result.now below c.index.ensures 0) ∙ c.if-index-eq0.true in
    none_reached ports bridges lans count n depths last c.requires.last tree first (bridge_at ports first) (bridge_at ports last) c.requires.first refl refl zero_is

pub hops_at-requires : goal.hops_at-requires
hops_at-requires c =
    let ports : List PortInView = c.args.ports.now in
    let bridges : List ℕ = c.in_ok-nodes.nodes.bridges.items in
    let lans : List ℕ = c.in_ok-nodes.nodes.lans.items in
    let hops : List PlaceHop = c.in_ok-places.places.items in
    let path = path_of bridges lans c.as_slice-bridges.result.now c.as_slice-lans.result.now c.args.first c.args.last hops c.as_slice-bridges.ensures.value c.as_slice-lans.ensures.value c.in_ok-places.ensures in
    subst (All (λ (h : PlaceHop). (h.leaving < length ports) × (h.arriving < length ports))) (sym c.as_slice.ensures.value)
    (all_below ports bridges lans c.in_ok-nodes.nodes.count c.in_ok-nodes.ensures hops (get_or bridges c.args.first 0) (get_or bridges c.args.last 0) path.path.way)

pub returns : goal.returns
returns c =
    let ports : List PortInView = c.args.ports.now in
    let bridges : List ℕ = c.in_ok-nodes.nodes.bridges.items in
    let lans : List ℕ = c.in_ok-nodes.nodes.lans.items in
    let count : ℕ = c.in_ok-nodes.nodes.count in
    let n = c.in_ok-nodes.ensures in
    let first : ℕ = c.args.first in
    let last : ℕ = c.args.last in
    let hops : List PlaceHop = c.in_ok-places.places.items in
    let path = path_of bridges lans c.as_slice-bridges.result.now c.as_slice-lans.result.now first last hops c.as_slice-bridges.ensures.value c.as_slice-lans.ensures.value c.in_ok-places.ensures in
    let d : LogicalPort = some_port ports first c.requires.first in
    let by_name = first_named ports bridges lans count n c.requires.rising d hops first last (bridge_at ports first) (bridge_at ports last) c.requires.first c.requires.last refl refl path in
    subst (IsFirstPath (map named_port ports) (bridge_at ports first) (bridge_at ports last)) (sym (c.in_ok-hops.ensures d ∙ ap (map (hop_at ports bridges lans count n d)) c.as_slice.ensures.value)) by_name
