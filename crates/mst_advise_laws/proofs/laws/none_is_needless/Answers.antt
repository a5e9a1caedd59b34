use Rattle.mst_advise_laws.proofs.Needed.{tell_needed}
use Rattle.mst_advise_laws.proofs.laws.none_is_needless.Goals as goal

pub returns : goal.returns
returns c net wanted count rows ok x = tell_needed net ok wanted x.outcome x.is_outcome c.one_outcome.ensures count rows x.told
