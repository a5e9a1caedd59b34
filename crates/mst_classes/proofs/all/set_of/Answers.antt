use Rattle.std.proofs.Common.{◌∙◌}
use Rattle.mst_classes.proofs.VidLists.{set_more}
use Rattle.mst_classes.proofs.all.set_of.Goals as goal

pub loop-vid-preserved : goal.loop-vid-preserved
loop-vid-preserved c = c.insert.ensures ∙ set_more c.args.group.now c.loop-vid.vid-index c.vid-item.result c.loop-vid.set c.loop-vid-test.true c.vid-item.is c.loop-vid.invariant
