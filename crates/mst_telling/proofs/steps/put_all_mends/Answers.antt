use Rattle.mst_policy.specs.declared.policy.PolicyLine.{PolicyLine}
use Rattle.mst_telling.specs.Judged.{change_at}
use Rattle.mst_telling.specs.Steps.{mends}
use Rattle.mst_telling.proofs.GoesOn.{flat_each, more, whole}
use Rattle.mst_telling.proofs.steps.put_all_mends.Goals as goal

pub loop-n-preserved : goal.loop-n-preserved
loop-n-preserved g c first rows grew =
    let n = c.loop-n.n in
    let lines = c.args.lines.now in
    let line : PolicyLine = c.index-lines-n.result in
    more (g.R.Rows.grew first c.put_mends.new.out) (flat_each (mends c.args.step) (λ n line. change_at n line c.args.before.now c.args.now.now)) lines n line rows c.loop-n-test.true c.index-lines-n.is
    (c.in_ok-put_mends.ensures first _ (c.loop-n.invariant first rows grew))

pub returns : goal.returns
returns g c first rows grew =
    whole (g.R.Rows.grew first c.loop-n.out) (flat_each (mends c.args.step) (λ n line. change_at n line c.args.before.now c.args.now.now)) c.args.lines.now c.loop-n.n rows c.loop-n-test.false (c.loop-n.invariant first rows grew)
