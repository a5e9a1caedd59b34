use Rattle.std.proofs.Common.{take}
use Rattle.mst_note_text.specs.declared.member.Member.{Member}
use Rattle.mst_note_text.specs.Placed.{ArePlaces}
use Rattle.mst_note_text.proofs.places.places_of.Given as goal

-- the places of the bridges so far
abbrev pub invariant-loop-place : goal.invariant-loop-place
invariant-loop-place l = ArePlaces (λ (m : Member). m.number) (take l.place l.members) l.places.entries
