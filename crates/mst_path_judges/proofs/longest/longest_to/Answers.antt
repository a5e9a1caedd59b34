use Rattle.std.proofs.Common.{ℕ, List, get_or, take, sym, subst}
use Rattle.std.proofs.lemmas.List.{take_all, take_more}
use Rattle.mst_path_judges.specs.Spans.{FirstSpan, IsCountedFrom, IsCountedTo}
use Rattle.mst_path_judges.proofs.CountedSpans.{begins, one_more}
use Rattle.mst_path_judges.proofs.SpanOrder.{joined}
use Rattle.mst_path_judges.proofs.longest.longest_to.Goals as goal

pub loop-place-init : goal.loop-place-init
loop-place-init c = begins c.args.ports.now c.args.counts.now c.args.to

pub loop-place-preserved : goal.loop-place-preserved
loop-place-preserved c =
    let ports = c.args.ports.now in
    let counts = c.args.counts.now in
    let places : List ℕ = c.args.places.now in
    let i : ℕ = c.loop-place.place-index in
    let place : ℕ = get_or places i 0 in
    subst (λ ps. FirstSpan (IsCountedTo ports counts ps c.args.to) c.first-longest.result) (sym (take_more places i 0 c.loop-place-test.true))
    (one_more ports counts c.args.to (take i places) place c.first-longest.result
    (joined (IsCountedTo ports counts (take i places) c.args.to) (IsCountedFrom ports counts c.args.to place) c.loop-place.longest c.span_between-span.result c.first-longest.result c.loop-place.invariant c.span_between-span.ensures c.first-longest.ensures))

pub returns : goal.returns
returns c =
    subst (λ ps. FirstSpan (IsCountedTo c.args.ports.now c.args.counts.now ps c.args.to) c.loop-place.longest) (take_all c.loop-place.place-index c.args.places.now c.loop-place-test.false) c.loop-place.invariant
