use Rattle.mst_picture.specs.Lans.{end_line}
use Rattle.mst_picture.proofs.Lines.{text_more}
use Rattle.mst_picture.proofs.lans.push_end_lines.Goals as goal

pub loop-end-preserved : goal.loop-end-preserved
loop-end-preserved c =
    text_more (end_line c.args.lan.now) c.args.ends.now c.loop-end.end-index c.end-item.result c.loop-end-test.true c.end-item.is c.args.out.now.items c.loop-end.out.items c.push_end_line.new.out.items c.loop-end.invariant
    (c.in_ok-push_end_line.ensures {u = tt})
