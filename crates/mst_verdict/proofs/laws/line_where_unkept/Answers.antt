use Rattle.mst_verdict.proofs.NothingBack.{nothing_back}
use Rattle.mst_verdict.proofs.UnkeptTold.{line_where_unkept}
use Rattle.mst_verdict.proofs.laws.line_where_unkept.Goals as goal

pub returns : goal.returns
returns c net o prior events line rows is are told = line_where_unkept net o is are events c.one_outcome.ensures c.told_where_broken.ensures (nothing_back net o) prior line rows told
