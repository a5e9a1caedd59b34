use Rattle.mst_diff.proofs.AlikeNets.{alone_alike}
use Rattle.mst_diff.proofs.LastLine.{nothing_counted}
use Rattle.mst_diff.proofs.laws.last_line.Goals as goal

pub returns-clause-counted : goal.returns-clause-counted
returns-clause-counted g a b o p = nothing_counted a o b p

pub returns-clause-same : goal.returns-clause-same
returns-clause-same g a b o p = alone_alike a b o p g.islands_of_vid.ensures.one
