use Rattle.std.proofs.Common.{not}
use Rattle.mst_rows.specs.Rows.{Row}
use Rattle.mst_telling.specs.Judged.{found_at}
use Rattle.mst_telling.specs.Once.{others}
use Rattle.mst_telling.specs.Rows.{row_at}
use Rattle.mst_telling.specs.Texts.{is_told}
use Rattle.mst_telling.proofs.GoesOn.{flat_mapped, more, then_filtered, then_mapped, whole}
use Rattle.mst_telling.proofs.once.put_all_others.Goals as goal

pub loop-finding-preserved : goal.loop-finding-preserved
loop-finding-preserved g c nows before folds were first rows grew =
    let folding = c.args.folding.now in
    more (g.R.Rows.grew first c.put_others.new.out)
    (then_mapped (row_at folding.step) (then_filtered (λ (row : Row). not (is_told before row)) (flat_mapped (others folding.number folding.scope.now nows) (found_at c.args.n)))) c.args.found.now c.loop-finding.finding-index
    c.finding-item.result rows c.loop-finding-test.true c.finding-item.is (c.in_ok-put_others.ensures nows before folds were first _ (c.loop-finding.invariant nows before folds were first rows grew))

pub returns : goal.returns
returns g c nows before folds were first rows grew =
    let folding = c.args.folding.now in
    whole (g.R.Rows.grew first c.loop-finding.out)
    (then_mapped (row_at folding.step) (then_filtered (λ (row : Row). not (is_told before row)) (flat_mapped (others folding.number folding.scope.now nows) (found_at c.args.n)))) c.args.found.now c.loop-finding.finding-index rows
    c.loop-finding-test.false (c.loop-finding.invariant nows before folds were first rows grew)
