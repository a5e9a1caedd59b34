use Rattle.std.proofs.Common.{◌++◌, map, subst}
use Rattle.std.proofs.lemmas.List.{take_all}
use Rattle.mst_bpdu.specs.CaptureText.{difference_row}
use Rattle.mst_bpdu.proofs.MappedRows.{mapped_more}
use Rattle.mst_bpdu.proofs.text.put_differences.Goals as goal

pub loop-difference-preserved : goal.loop-difference-preserved
loop-difference-preserved g c first rows grew =
    mapped_more (g.R.Rows.grew first c.put_difference.new.out) (difference_row c.args.number c.args.port.now) c.args.differences.now c.loop-difference.difference-index c.difference-item.result rows c.loop-difference-test.true c.difference-item.is
    (c.in_ok-put_difference.ensures first _ (c.loop-difference.invariant first rows grew))

pub returns : goal.returns
returns g c first rows grew =
    subst (λ ds. g.R.Rows.grew first c.loop-difference.out (rows ++ map (difference_row c.args.number c.args.port.now) ds)) (take_all c.loop-difference.difference-index c.args.differences.now c.loop-difference-test.false) (c.loop-difference.invariant first rows grew)
