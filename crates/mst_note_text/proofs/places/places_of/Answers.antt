use Rattle.mst_note_text.specs.declared.member.Member.{Member}
use Rattle.mst_note_text.proofs.Placing.{one_placed}
use Rattle.mst_note_text.proofs.places.places_of.Goals as goal

pub loop-place-preserved : goal.loop-place-preserved
loop-place-preserved c =
    one_placed (λ (m : Member). m.number) c.args.members.now c.loop-place.place c.index-members-place.result c.loop-place.places.entries c.insert.new.self.entries
    c.loop-place-test.true c.index-members-place.is c.in_ok-insert.ensures.updates.0 c.loop-place.invariant
