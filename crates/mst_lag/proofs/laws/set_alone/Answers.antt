use Rattle.mst_lag.proofs.SetAlone.{alone_made, tables_alone}
use Rattle.mst_lag.proofs.laws.set_alone.Goals as goal

pub returns-clause-made : goal.returns-clause-made
returns-clause-made c = alone_made

pub returns-clause-settings : goal.returns-clause-settings
returns-clause-settings c = tables_alone
