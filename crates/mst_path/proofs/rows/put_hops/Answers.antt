use Rattle.std.proofs.Common.{◌≡◌, ℕ, ◌+◌, ◌<◌, List, [], ◌∷◌, ◌++◌, map, length, take, sym, ap, ◌∙◌, subst, append_assoc, arith}
use Rattle.std.proofs.lemmas.List.{map_push, take_more, length-map, length-take-le}
use Rattle.mst_path.specs.PathRows.{hop_row, hop_rows}
use Rattle.mst_path.specs.Paths.{Hop as HopByName}
use Rattle.mst_path.specs.Places.{named_hop}
use Rattle.mst_path.specs.declared.hop.Hop.{Hop}
use Rattle.mst_path.specs.declared.trace.Trace.{Trace}
use Rattle.mst_rows.specs.Rows.{Row}
use Rattle.mst_path.proofs.rows.put_hops.Goals as goal

-- one hop more
one_row : (t : Trace) (k : ℕ) (hops : List HopByName) (h : HopByName) (n : ℕ) → n ≡ k + length hops → hop_rows t k hops ++ hop_row t n h ∷ [] ≡ hop_rows t k (hops ++ h ∷ [])
one_row t k [] h n e = ap (λ n. hop_row t n h ∷ []) (let same : n ≡ k = omega arith in same)
one_row t k (g ∷ hops) h n e = ap (λ l. hop_row t k g ∷ l) (one_row t (k + 1) hops h n (omega arith))

pub loop-hop-preserved : goal.loop-hop-preserved
loop-hop-preserved g c =
    let t : Trace = c.args.trace.now in
    let hops : List Hop = c.args.hops.now in
    let i : ℕ = c.loop-hop.hop-index in
    let item : Hop = c.hop-item.result in
    let inv = c.loop-hop.invariant in
    let before : List HopByName = map named_hop (take i hops) in
    let so_far : List Row = hop_rows t 1 before in
    let row : Row = hop_row t (c.loop-hop.number + 1) (named_hop item) in
    let below : i < length hops = c.loop-hop-test.true in
    let taken : length (take i hops) ≡ i = length-take-le i hops (omega arith) in
    let long : length before ≡ length (take i hops) = length-map (take i hops) named_hop in
    let number = inv.number in
    let more : before ++ named_hop item ∷ [] ≡ map named_hop (take (i + 1) hops) =
    sym (map_push named_hop (take i hops) item) ∙ ap (λ (h : Hop). map named_hop (take i hops ++ h ∷ [])) c.hop-item.is ∙ ap (map named_hop) (sym (take_more hops i item below)) in
    record {
      number = ap (λ (n : ℕ). n + 1) number;
      put = λ first rows grew. subst (g.R.Rows.grew first c.put_hop.new.out)
          (append_assoc rows so_far (row ∷ []) ∙ ap (λ (l : List Row). rows ++ l) (one_row t 1 before (named_hop item) (c.loop-hop.number + 1) (omega arith) ∙ ap (hop_rows t 1) more))
          (c.in_ok-put_hop.ensures first (rows ++ so_far) (inv.put first rows grew));
    }
