use Rattle.std.proofs.Common.{◌≡◌, ℕ, ◌<◌, true≢false, List, map, length, get_or, sym, ap, ◌∙◌, arith}
use Rattle.std.proofs.lemmas.List.{get_or-map, length-map}
use Rattle.mst_path.specs.Paths.{HopTold, hop_told, hops_told}
use Rattle.mst_path.specs.Places.{named_hop}
use Rattle.mst_path.specs.declared.hop.Hop.{Hop}
use Rattle.mst_path.proofs.hop.are_same_hops.Goals as goal

-- what is told of the hop at a place
told_at : (hops : List Hop) (i : ℕ) (h : Hop) (d : HopTold) → i < length hops → h ≡ get_or hops i h → get_or (hops_told (map named_hop hops)) i d ≡ hop_told (named_hop h)
told_at hops i h d below e =
    let long : length (map named_hop hops) ≡ length hops = length-map hops named_hop in
    get_or-map hop_told (map named_hop hops) i (named_hop h) d (omega arith) ∙ ap hop_told (get_or-map named_hop hops i h (named_hop h) below) ∙ ap (λ (h : Hop). hop_told (named_hop h)) (sym e)

pub returns-then-not-is_same_hop : goal.returns-then-not-is_same_hop
returns-then-not-is_same_hop c = (
  λ e. absurd (true≢false (sym e)),
  λ e.
      let hop : Hop = c.index-hops-place.result in
      let other : Hop = c.index-others-place.result in
      let i : ℕ = c.loop-place.place in
      let d : HopTold = hop_told (named_hop hop) in
      let below : i < length c.args.others.now = (let a = c.if-hops-others.false in let b = c.loop-place-test.true in omega arith) in
      let same : hop_told (named_hop hop) ≡ hop_told (named_hop other) =
      sym (told_at c.args.hops.now i hop d c.loop-place-test.true c.index-hops-place.is) ∙ ap (λ (l : List HopTold). get_or l i d) e ∙ told_at c.args.others.now i other d below c.index-others-place.is in
      absurd (true≢false (sym (c.is_same_hop.ensures.1 same) ∙ c.if-not-is_same_hop.true)),
)
