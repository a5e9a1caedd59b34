use Rattle.mst_hints.proofs.Noted.{made_noted}
use Rattle.mst_hints.proofs.adds.Adds.note_making.Goals as goal

pub returns-in-Ok-clause-noted : goal.returns-in-Ok-clause-noted
returns-in-Ok-clause-noted c = made_noted _ c.same_records.ensures c.args.self.now.made.entries c.insert.new.self.entries c.args.made c.args.number c.in-Ok.ensures.updates.0
