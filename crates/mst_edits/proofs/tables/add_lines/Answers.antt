use Rattle.mst_edits.proofs.LinesMade.{edit_made}
use Rattle.mst_edits.proofs.tables.add_lines.Goals as goal

pub loop-line-preserved : goal.loop-line-preserved
loop-line-preserved c = edit_made c.args.name.now c.args.lines.now c.loop-line.line-index c.line-item.result c.args.edits.now.items c.loop-line.edits.items c.add_line.new.edits.items c.loop-line-test.true c.line-item.is c.loop-line.invariant c.in_ok-add_line.ensures
