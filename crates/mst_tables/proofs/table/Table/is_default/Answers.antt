use Rattle.std.proofs.Common.{sym, ◌∙◌}
use Rattle.mst_tables.proofs.TableLemmas.{default_tells}
use Rattle.mst_tables.proofs.table.Table.is_default.Goals as goal

pub returns-clause-default : goal.returns-clause-default
returns-clause-default c = let tells = default_tells c.args.self.now c.all_in_cist.ensures.long in (λ yes. tells.0 (sym c.all_in_cist.ensures.all ∙ yes), λ same. c.all_in_cist.ensures.all ∙ tells.1 same)
