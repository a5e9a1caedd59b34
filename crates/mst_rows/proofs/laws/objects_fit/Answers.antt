use Rattle.mst_rows.proofs.ObjectsFit.{region_fits, vector_fits}
use Rattle.mst_rows.proofs.laws.objects_fit.Goals as goal

pub returns-clause-vector : goal.returns-clause-vector
returns-clause-vector c = vector_fits

pub returns-clause-region : goal.returns-clause-region
returns-clause-region c = region_fits
