use Rattle.std.proofs.Common.{◌∙◌}
use Rattle.mst_edits.specs.Edits.{del_lan_edits}
use Rattle.mst_edits.proofs.Listing.{one_given, all_given}
use Rattle.mst_edits.proofs.going.add_del_lans.Goals as goal

pub loop-lan-preserved : goal.loop-lan-preserved
loop-lan-preserved g c =
    one_given (del_lan_edits (g.D.Contents.tables c.args.new.now).net) c.as_slice-lan-items.result.now c.loop-lan.lan-index c.lan-item.result c.args.edits.now.items c.loop-lan.edits.items c.add_del_lan.new.edits.items c.loop-lan-test.true c.lan-item.is c.loop-lan.invariant c.in_ok-add_del_lan.ensures

pub returns : goal.returns
returns g c = all_given (del_lan_edits (g.D.Contents.tables c.args.new.now).net) c.as_slice-lan-items.result.now _ c.loop-lan.lan-index c.args.edits.now.items c.loop-lan.edits.items c.loop-lan-test.false c.loop-lan.invariant (c.as_slice-lan-items.ensures.value ∙ c.in_ok-lans.ensures)
