use Rattle.std.proofs.Common.{◌≡◌, ℕ, List, [], ◌∷◌, ◌++◌, map, take, get_or, sym, ap, ◌∙◌}
use Rattle.std.proofs.lemmas.List.{take_all, take_more, map_push, get_or-map}
use Rattle.mst_view.specs.View.{LogicalPort}
use Rattle.mst_view.specs.Viewed.{named_port}
use Rattle.mst_view.specs.declared.in_view.PortInView.{PortInView}
use Rattle.mst_path.specs.Paths.{Hop as HopByName}
use Rattle.mst_path.specs.Places.{named_hop}
use Rattle.mst_path.specs.declared.hop.Hop.{Hop}
use Rattle.mst_path.specs.declared.hop.PlaceHop.{PlaceHop}
use Rattle.mst_path.proofs.over.hops_at.Goals as goal

abbrev hop_at : List PortInView → LogicalPort → PlaceHop → HopByName
hop_at ports d h = record { leaving = get_or (map named_port ports) h.leaving d; arriving = get_or (map named_port ports) h.arriving d }

pub loop-hop-preserved : goal.loop-hop-preserved
loop-hop-preserved c = λ d.
    let ports : List PortInView = c.args.ports.now in
    let places : List PlaceHop = c.args.places.now in
    let i : ℕ = c.loop-hop.hop-index in
    let z : PlaceHop = record { leaving = 0; arriving = 0 } in
    let x : PlaceHop = get_or places i z in
    let p : PortInView = c.index-ports-hop.result in
    let q : PortInView = c.index-ports-hop-in-loop-hop.result in
    let new : Hop = record { leaving = p; arriving = q } in
    let low = c.requires i z c.loop-hop-test.true in
    let leaving : named_port p ≡ get_or (map named_port ports) x.leaving d = sym (get_or-map named_port ports x.leaving p d low.0 ∙ ap named_port (sym c.index-ports-hop.is)) in
    let arriving : named_port q ≡ get_or (map named_port ports) x.arriving d = sym (get_or-map named_port ports x.arriving q d low.1 ∙ ap named_port (sym c.index-ports-hop-in-loop-hop.is)) in
    let one : named_hop new ≡ hop_at ports d x = λ j. record { leaving = leaving j; arriving = arriving j } in
    ap (map named_hop) c.in_ok-push.ensures.items
    ∙ map_push named_hop c.loop-hop.hops.items new
    ∙ ap (λ (l : List HopByName). l ++ named_hop new ∷ []) (c.loop-hop.invariant d)
    ∙ ap (λ (h : HopByName). map (hop_at ports d) (take i places) ++ h ∷ []) one
    ∙ sym (map_push (hop_at ports d) (take i places) x)
    ∙ ap (map (hop_at ports d)) (sym (take_more places i z c.loop-hop-test.true))

pub returns : goal.returns
returns c = λ d. c.loop-hop.invariant d ∙ ap (map (hop_at c.args.ports.now d)) (take_all c.loop-hop.hop-index c.args.places.now c.loop-hop-test.false)
