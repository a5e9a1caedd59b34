use Rattle.std.proofs.Common.{Some}
use Rattle.mst_hints.proofs.Noted.{kept_noted}
use Rattle.mst_hints.proofs.adds.Adds.note_refused.Goals as goal

pub returns-in-Ok-clause-noted : goal.returns-in-Ok-clause-noted
returns-in-Ok-clause-noted c = kept_noted _ c.same_records.ensures c.args.self.now.refused.entries c.insert.new.self.entries c.args.added (Some c.args.number) c.in-Ok.ensures.updates.0
