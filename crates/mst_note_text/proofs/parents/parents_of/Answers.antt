use Rattle.std.proofs.Common.{length, sym, arith}
use Rattle.mst_note_text.specs.SeenTree.{given}
use Rattle.mst_note_text.proofs.Giving.{gives_none, gives_one}
use Rattle.mst_note_text.proofs.TreeParents.{parts}
use Rattle.mst_note_text.proofs.parents.parents_of.Goals as goal
use Rattle.mst_note_text.proofs.parents.parents_of.Goals.{in-Some, in_default}

pub index_mut-requires : goal.index_mut-requires
index_mut-requires c =
    let here = (parts c.args.view.now c.args.forest.now c.args.tree c.args.places.now.entries c.port-item.result c.in-Some.place c.in-Some.parent (sym c.in-Some.ensures)).here in
    let low = c.requires.in_list c.port-item.result.bridge c.in-Some.place here in
    let long = c.loop-port.invariant.long in
    omega arith

pub loop-port-preserved : goal.loop-port-preserved
loop-port-preserved c =
    let v = c.args.view.now in
    let f = c.args.forest.now in
    let places = c.args.places.now.entries in
    let gives = given v f c.args.tree places in
    let ports = c.ports-port-items.result.now in
    let count = length c.args.members.now in
    elim c.match-given.branch [
      | in-Some w ↦
          let here = (parts v f c.args.tree places c.port-item.result w.in-Some.place w.in-Some.parent (sym w.in-Some.ensures)).here in
          rw w.parents-is (gives_one gives ports count c.loop-port.port-index c.port-item.result c.loop-port-test.true c.port-item.is c.loop-port.parents.items c.loop-port.invariant w.in-Some.place w.in-Some.parent
          (sym w.in-Some.ensures) (c.requires.in_list c.port-item.result.bridge w.in-Some.place here))
      | in_default w ↦ rw w.parents-is (gives_none gives ports count c.loop-port.port-index c.port-item.result c.loop-port-test.true c.port-item.is c.loop-port.parents.items c.loop-port.invariant (sym w.in_default.ensures))
    ]
