use Rattle.mst_settle.proofs.Noted.{covered}
use Rattle.mst_settle.proofs.rewiring.Rewiring.new.Goals as goal

pub invariant_of-result : goal.invariant_of-result
invariant_of-result g c = covered c.args.from.now c.args.to.now c.new-differing.result.items c.note_missing.new.numbers.items c.note_missing-2.new.numbers.items c.in_ok-note_missing.ensures c.in_ok-note_missing-2.ensures
