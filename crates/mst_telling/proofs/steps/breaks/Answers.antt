use Rattle.std.proofs.Common.{◌≡◌, ◌∙◌, ◌||◌, ap, sym}
use Rattle.std.proofs.lemmas.List.{take_all}
use Rattle.mst_policy.specs.declared.policy.PolicyLine.{PolicyLine}
use Rattle.mst_telling.specs.Judged.{change_at, each_from}
use Rattle.mst_telling.specs.Steps.{breaks, is_broken_by_step}
use Rattle.mst_telling.proofs.GoesOn.{any_each}
use Rattle.mst_telling.proofs.Lines.{changes_at}
use Rattle.mst_telling.proofs.steps.breaks.Goals as goal

pub loop-n-preserved : goal.loop-n-preserved
loop-n-preserved c =
    let n = c.loop-n.n in
    let lines = c.args.lines.now in
    (λ i. c.loop-n.invariant i || c.is_newly_broken-is_any.ensures i)
    ∙ sym (any_each is_broken_by_step (λ n (line : PolicyLine). change_at n line c.args.before.now c.args.now.now) lines n c.index-lines-n.result c.loop-n-test.true c.index-lines-n.is)

pub returns : goal.returns
returns c =
    c.loop-n.invariant ∙ ap (λ l. breaks (each_from (λ n (line : PolicyLine). change_at n line c.args.before.now c.args.now.now) 0 l)) (take_all c.loop-n.n c.args.lines.now c.loop-n-test.false)
    ∙ ap breaks (sym (changes_at c.args.before.now c.args.now.now c.args.lines.now))
