use Rattle.std.proofs.Common.{◌∙◌, ◌<◌, ℕ, List, get_or, length, take, sym, ap, subst}
use Rattle.std.proofs.lemmas.List.{take_all, take_more}
use Rattle.std.proofs.lemmas.List.Elements.{All-contains}
use Rattle.mst_graph.proofs.Members.{in_none}
use Rattle.mst_path.specs.Places.{AreHopCounts, bridge_at}
use Rattle.mst_path_judges.specs.Longest.{IsFoundSpan}
use Rattle.mst_path_judges.specs.Spans.{FirstSpan, IsCountedTo}
use Rattle.mst_path_judges.proofs.CountedSpans.{found_more}
use Rattle.mst_path_judges.proofs.SpanOrder.{joined}
use Rattle.mst_path_judges.proofs.longest.farthest.Goals as goal

-- no span leads to no place
pub loop-to-init : goal.loop-to-init
loop-to-init c = λ s f. in_none f.to f.ends

pub loop-to-preserved : goal.loop-to-preserved
loop-to-preserved c =
    let ports = c.args.ports.now in
    let places : List ℕ = c.args.places.now in
    let i : ℕ = c.loop-to.to-index in
    let to : ℕ = get_or places i 0 in
    let counts = c.as_slice.result.now in
    let are : AreHopCounts ports (bridge_at ports to) counts = subst (AreHopCounts ports (bridge_at ports to)) (sym c.as_slice.ensures.value) c.in_ok-counts.ensures in
    subst (λ tos. FirstSpan (IsFoundSpan ports places tos) c.first-longest.result) (sym (take_more places i 0 c.loop-to-test.true))
    (found_more ports places (take i places) to counts are (λ from h. All-contains (λ place. place < length ports) places from c.requires.places h) c.first-longest.result
    (joined (IsFoundSpan ports places (take i places)) (IsCountedTo ports counts places to) c.loop-to.longest c.longest_to-span.result c.first-longest.result c.loop-to.invariant c.longest_to-span.ensures c.first-longest.ensures))

pub longest_to-span-requires-clause-as_long : goal.longest_to-span-requires-clause-as_long
longest_to-span-requires-clause-as_long c = ap length c.as_slice.ensures.value ∙ c.in_ok-counts.ensures.as_long

pub returns : goal.returns
returns c =
    let ports = c.args.ports.now in
    let places : List ℕ = c.args.places.now in
    subst (λ tos. FirstSpan (IsFoundSpan ports places tos) c.loop-to.longest) (take_all c.loop-to.to-index places c.loop-to-test.false) c.loop-to.invariant
