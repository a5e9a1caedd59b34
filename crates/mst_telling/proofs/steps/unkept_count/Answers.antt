use Rattle.std.proofs.Common.{◌≡◌, ◌∙◌, ◌+◌, ap, arith, sym}
use Rattle.std.proofs.lemmas.List.{take_all}
use Rattle.mst_policy.specs.declared.policy.PolicyLine.{PolicyLine}
use Rattle.mst_graph.specs.Lists.{has_any}
use Rattle.mst_telling.specs.Judged.{line_rows, told_in}
use Rattle.mst_telling.specs.Steps.{unkept_count}
use Rattle.mst_telling.proofs.GoesOn.{counted_each, one_few, one_if}
use Rattle.mst_telling.proofs.steps.unkept_count.Goals as goal

pub loop-n-preserved : goal.loop-n-preserved
loop-n-preserved c =
    let n = c.loop-n.n in
    let lines = c.args.lines.now in
    let line : PolicyLine = c.index-lines-n.result in
    record {
      counted = (λ i. c.loop-n.invariant.counted i + (c.one_if-count.ensures ∙ ap one_if c.is_unkept-is_any.ensures) i) ∙ sym (counted_each has_any (λ n (line : PolicyLine). line_rows n line c.args.judgement.now) lines n line c.loop-n-test.true c.index-lines-n.is);
      few = omega (arith, c.loop-n.invariant.few, one_few c.is_unkept-is_any.result, c.one_if-count.ensures);
    }

pub returns : goal.returns
returns c = c.loop-n.invariant.counted ∙ ap (λ l. unkept_count (told_in l c.args.judgement.now)) (take_all c.loop-n.n c.args.lines.now c.loop-n-test.false)
