use Rattle.mst_compare.proofs.Planning.{one_list_of}
use Rattle.mst_compare.proofs.laws.one_list.Goals as goal

pub returns : goal.returns
returns c net bpdu found others ok x y = one_list_of net bpdu found others x y (c.one_outcome.ensures net x.outcome y.outcome ok x.is_outcome y.is_outcome)
