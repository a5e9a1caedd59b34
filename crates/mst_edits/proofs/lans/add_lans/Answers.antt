use Rattle.std.proofs.Common.{◌∙◌}
use Rattle.mst_edits.specs.Edits.{lan_edits}
use Rattle.mst_edits.proofs.Listing.{one_given, all_given}
use Rattle.mst_edits.proofs.lans.add_lans.Goals as goal

pub loop-name-preserved : goal.loop-name-preserved
loop-name-preserved g c =
    one_given (lan_edits c.args.in_place (g.C.Contents.tables c.args.old.now).net (g.D.Contents.tables c.args.new.now).net) c.as_slice-name-items.result.now c.loop-name.name-index c.name-item.result c.args.edits.now.items c.loop-name.edits.items c.add_lan.new.edits.items c.loop-name-test.true c.name-item.is c.loop-name.invariant c.in_ok-add_lan.ensures

pub returns : goal.returns
returns g c = all_given (lan_edits c.args.in_place (g.C.Contents.tables c.args.old.now).net (g.D.Contents.tables c.args.new.now).net) c.as_slice-name-items.result.now _ c.loop-name.name-index c.args.edits.now.items c.loop-name.edits.items c.loop-name-test.false c.loop-name.invariant (c.as_slice-name-items.ensures.value ∙ c.in_ok-names.ensures)
