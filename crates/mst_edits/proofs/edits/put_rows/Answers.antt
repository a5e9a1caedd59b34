use Rattle.mst_rows.proofs.Loops.{rows_all, rows_more}
use Rattle.mst_edits.specs.EditRows.{edit_rows}
use Rattle.mst_edits.proofs.edits.put_rows.Goals as goal

pub loop-edit-preserved : goal.loop-edit-preserved
loop-edit-preserved g c first rows grew =
    rows_more (g.R.Rows.grew first c.put_edit.new.out) edit_rows c.args.all.now c.loop-edit.edit-index c.edit-item.result rows c.loop-edit-test.true c.edit-item.is
    (c.in_ok-put_edit.ensures first _ (c.loop-edit.invariant first rows grew))

pub returns : goal.returns
returns g c first rows grew = rows_all (g.R.Rows.grew first c.loop-edit.out) edit_rows c.args.all.now c.loop-edit.edit-index rows c.loop-edit-test.false (c.loop-edit.invariant first rows grew)
