use Rattle.std.proofs.Common.{◌∙◌}
use Rattle.mst_edits.specs.Edits.{del_bridge_edits}
use Rattle.mst_edits.proofs.Listing.{one_given, all_given}
use Rattle.mst_edits.proofs.going.add_del_bridges.Goals as goal

pub loop-bridge-preserved : goal.loop-bridge-preserved
loop-bridge-preserved g c =
    one_given (del_bridge_edits (g.C.Contents.tables c.args.old.now).net (g.D.Contents.tables c.args.new.now).net) c.as_slice-bridge-items.result.now c.loop-bridge.bridge-index c.bridge-item.result c.args.edits.now.items c.loop-bridge.edits.items c.add_del_bridge.new.edits.items c.loop-bridge-test.true c.bridge-item.is c.loop-bridge.invariant c.in_ok-add_del_bridge.ensures

pub returns : goal.returns
returns g c = all_given (del_bridge_edits (g.C.Contents.tables c.args.old.now).net (g.D.Contents.tables c.args.new.now).net) c.as_slice-bridge-items.result.now _ c.loop-bridge.bridge-index c.args.edits.now.items c.loop-bridge.edits.items c.loop-bridge-test.false c.loop-bridge.invariant (c.as_slice-bridge-items.ensures.value ∙ c.in_ok-bridges.ensures)
