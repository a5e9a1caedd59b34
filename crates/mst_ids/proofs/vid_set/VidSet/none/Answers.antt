use Rattle.mst_ids.proofs.VidSetLemmas.{IsKeptSet-zeros, set_of_zeros}
use Rattle.mst_ids.proofs.vid_set.VidSet.none.Goals as goal

pub invariant_of-result : goal.invariant_of-result
invariant_of-result c = IsKeptSet-zeros

pub returns : goal.returns
returns c = set_of_zeros
