use Rattle.mst_altering.proofs.Well.{well_where_nothing_breaks}
use Rattle.mst_altering.proofs.laws.well_where_nothing_breaks.Goals as goal

pub returns : goal.returns
returns c = well_where_nothing_breaks c.statuses.ensures.good
