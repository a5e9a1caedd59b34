use Rattle.std.proofs.Common.{refl}
use Rattle.mst_edits.specs.Edits.{port_edits}
use Rattle.mst_edits.proofs.Listing.{one_given, all_given}
use Rattle.mst_edits.proofs.ports.add_ports.Goals as goal

pub loop-port-preserved : goal.loop-port-preserved
loop-port-preserved g c =
    one_given (port_edits (g.C.Contents.tables c.args.old.now).net (g.D.Contents.tables c.args.new.now).net) c.args.ports.now c.loop-port.port-index c.port-item.result c.args.edits.now.items c.loop-port.edits.items c.add_port.new.edits.items c.loop-port-test.true c.port-item.is c.loop-port.invariant c.in_ok-add_port.ensures

pub returns : goal.returns
returns g c = all_given (port_edits (g.C.Contents.tables c.args.old.now).net (g.D.Contents.tables c.args.new.now).net) c.args.ports.now _ c.loop-port.port-index c.args.edits.now.items c.loop-port.edits.items c.loop-port-test.false c.loop-port.invariant refl
