use Rattle.std.proofs.Common.{None}
use Rattle.mst_hints.proofs.Noted.{kept_noted}
use Rattle.mst_hints.proofs.adds.Adds.forget.Goals as goal

pub returns-clause-noted : goal.returns-clause-noted
returns-clause-noted c = λ number. kept_noted _ c.same_records.ensures c.args.self.now.refused.entries c.swap_remove.new.self.entries c.args.added.now None c.swap_remove.ensures.updates.0
