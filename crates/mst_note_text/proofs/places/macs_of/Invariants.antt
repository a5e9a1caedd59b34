use Rattle.std.proofs.Common.{take}
use Rattle.mst_view.specs.declared.in_view.BridgeInView.{BridgeInView}
use Rattle.mst_note_text.specs.Placed.{ArePlaces}
use Rattle.mst_note_text.proofs.places.macs_of.Given as goal

-- the places of the bridges so far
abbrev pub invariant-loop-place : goal.invariant-loop-place
invariant-loop-place l = ArePlaces (λ (b : BridgeInView). b.bridge.mac) (take l.place l.bridges) l.macs.entries
