use Rattle.mst_ids.proofs.VidSetLemmas.{IsKeptSet-all, set_of_all}
use Rattle.mst_ids.proofs.vid_set.VidSet.all.Goals as goal

pub invariant_of-result : goal.invariant_of-result
invariant_of-result c = IsKeptSet-all

pub returns : goal.returns
returns c = set_of_all
