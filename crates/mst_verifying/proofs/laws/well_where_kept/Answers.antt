use Rattle.mst_verifying.proofs.Well.{well_where_kept}
use Rattle.mst_verifying.proofs.laws.well_where_kept.Goals as goal

pub returns : goal.returns
returns c = well_where_kept c.statuses.ensures.good
