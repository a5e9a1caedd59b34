use Rattle.mst_view.specs.declared.in_view.BridgeInView.{BridgeInView}
use Rattle.mst_note_text.proofs.Placing.{one_placed}
use Rattle.mst_note_text.proofs.places.macs_of.Goals as goal

pub loop-place-preserved : goal.loop-place-preserved
loop-place-preserved c =
    one_placed (λ (b : BridgeInView). b.bridge.mac) c.args.bridges.now c.loop-place.place c.index-bridges-place.result c.loop-place.macs.entries c.insert.new.self.entries
    c.loop-place-test.true c.index-bridges-place.is c.in_ok-insert.ensures.updates.0 c.loop-place.invariant
