use Rattle.std.proofs.Common.{cond, ap, sym, ◌∙◌}
use Rattle.std.specs.Map.{lookup}
use Rattle.mst_records.proofs.keeping.keep.Goals as goal

pub returns-in-None : goal.returns-in-None
returns-in-None g c q = c.swap_remove.ensures.updates.0 q ∙ ap (λ o. cond (g.K.PartialEq.eq c.args.key q) o (lookup (g.K.PartialEq.eq q) c.args.table.now.entries)) (sym c.in-None.is)
