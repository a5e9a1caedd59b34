use Rattle.mst_sweeping.proofs.Remaining.{cut_at_all, parts_for_all, parts_of_all}
use Rattle.mst_sweeping.proofs.laws.parts_without_leaving.Goals as goal

pub returns-clause-same : goal.returns-clause-same
returns-clause-same g leaving a b o p vid parts none = (parts_for_all leaving a b o p vid parts none, parts_of_all leaving a b o p vid parts none)

pub returns-clause-fewer : goal.returns-clause-fewer
returns-clause-fewer g leaving a b o p vid rest parts = cut_at_all leaving a b o p vid rest g.islands_of_vid.ensures.one parts
