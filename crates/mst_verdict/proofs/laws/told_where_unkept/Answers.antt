use Rattle.mst_verdict.proofs.NothingBack.{nothing_back}
use Rattle.mst_verdict.proofs.UnkeptTold.{told_where_unkept}
use Rattle.mst_verdict.proofs.laws.told_where_unkept.Goals as goal

pub returns : goal.returns
returns c net o events line rows is are told = told_where_unkept net o is are events c.one_outcome.ensures c.told_where_broken.ensures (nothing_back net o) line rows told
