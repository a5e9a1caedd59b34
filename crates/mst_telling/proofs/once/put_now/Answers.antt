use Rattle.mst_telling.specs.Judged.{found_at}
use Rattle.mst_telling.specs.Once.{now_at}
use Rattle.mst_telling.proofs.GoesOn.{flat_mapped, more, whole}
use Rattle.mst_telling.proofs.Only.{then_new_told}
use Rattle.mst_telling.proofs.once.put_now.Goals as goal

pub loop-finding-preserved : goal.loop-finding-preserved
loop-finding-preserved g c those before are were first rows grew =
    let folding = c.args.folding.now in
    more (g.R.Rows.grew first c.put_now_at.new.out) (then_new_told folding.step before folding.scope.now those (flat_mapped (now_at folding.number) (found_at c.args.n))) c.args.found.now c.loop-finding.finding-index
    c.finding-item.result rows c.loop-finding-test.true c.finding-item.is (c.in_ok-put_now_at.ensures those before are were first _ (c.loop-finding.invariant those before are were first rows grew))

pub returns : goal.returns
returns g c those before are were first rows grew =
    let folding = c.args.folding.now in
    whole (g.R.Rows.grew first c.loop-finding.out) (then_new_told folding.step before folding.scope.now those (flat_mapped (now_at folding.number) (found_at c.args.n))) c.args.found.now c.loop-finding.finding-index rows
    c.loop-finding-test.false (c.loop-finding.invariant those before are were first rows grew)
