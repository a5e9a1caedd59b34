use Rattle.mst_config.proofs.Untouched.{stay, stay_made}
use Rattle.mst_config.proofs.laws.regions_stay.Goals as goal

pub returns-clause-ahead : goal.returns-clause-ahead
returns-clause-ahead c edit net numbers next region_ids e are = stay net numbers next region_ids are edit e

pub returns-clause-made : goal.returns-clause-made
returns-clause-made c = stay_made
