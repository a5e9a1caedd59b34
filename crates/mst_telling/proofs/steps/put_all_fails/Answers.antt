use Rattle.mst_policy.specs.declared.policy.PolicyLine.{PolicyLine}
use Rattle.mst_telling.specs.Judged.{change_at}
use Rattle.mst_telling.specs.Rows.{behind}
use Rattle.mst_telling.specs.Steps.{new_fails}
use Rattle.mst_telling.proofs.GoesOn.{flat_each, more, then_mapped, whole}
use Rattle.mst_telling.proofs.steps.put_all_fails.Goals as goal

pub loop-n-preserved : goal.loop-n-preserved
loop-n-preserved g c first rows grew =
    let n = c.loop-n.n in
    let lines = c.args.lines.now in
    let line : PolicyLine = c.index-lines-n.result in
    more (g.R.Rows.grew first c.put_new_fails.new.out) (then_mapped (behind c.args.step) (flat_each new_fails (λ n line. change_at n line c.args.before.now c.args.now.now))) lines n line rows c.loop-n-test.true c.index-lines-n.is
    (c.in_ok-put_new_fails.ensures first _ (c.loop-n.invariant first rows grew))

pub returns : goal.returns
returns g c first rows grew =
    whole (g.R.Rows.grew first c.loop-n.out) (then_mapped (behind c.args.step) (flat_each new_fails (λ n line. change_at n line c.args.before.now c.args.now.now))) c.args.lines.now c.loop-n.n rows c.loop-n-test.false
    (c.loop-n.invariant first rows grew)
