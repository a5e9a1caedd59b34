use Rattle.mst_sweeping.proofs.CutMoves.{cut_moves, joined_moves, told_moves}
use Rattle.mst_sweeping.proofs.laws.cut_moves.Goals as goal

pub returns-clause-cut : goal.returns-clause-cut
returns-clause-cut g leaving a b o p step rows told x = cut_moves leaving a b o p g.islands_of_vid.ensures.one step rows told x

pub returns-clause-joined : goal.returns-clause-joined
returns-clause-joined g leaving a b o p step rows told x = joined_moves leaving a b o p g.islands_of_vid.ensures.one step rows told x

pub returns-clause-told : goal.returns-clause-told
returns-clause-told g leaving a b o p step rows told x = told_moves leaving a b o p g.islands_of_vid.ensures.one step rows told x
