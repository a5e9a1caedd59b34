use Rattle.std.proofs.Common.{sym}
use Rattle.mst_hints.proofs.Held.{still_first, now_first}
use Rattle.mst_hints.proofs.puts.Puts.note_first.Goals as goal

pub returns-then-contains_key-clause-first : goal.returns-then-contains_key-clause-first
returns-then-contains_key-clause-first c puts was = still_first _ c.same_holders.ensures c.args.self.now.first.entries puts c.args.holder.now c.args.held.now (sym c.if-contains_key.ensures) was

pub returns-in-Ok-clause-first : goal.returns-in-Ok-clause-first
returns-in-Ok-clause-first c puts was =
    now_first _ c.same_holders.ensures c.args.self.now.first.entries c.insert.new.self.entries puts c.args.holder.now c.args.held.now (sym c.if-contains_key.ensures) c.in-Ok.ensures.updates.0 was
