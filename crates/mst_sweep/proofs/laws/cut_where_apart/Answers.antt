use Rattle.mst_sweep.proofs.CutApart.{cut_by_failures}
use Rattle.mst_sweep.proofs.laws.cut_where_apart.Goals as goal

pub returns : goal.returns
returns c a o p those vid parts ok is are free members h = cut_by_failures a o p those vid c.joined_without_loop.ensures.sets ok is are free members parts h
