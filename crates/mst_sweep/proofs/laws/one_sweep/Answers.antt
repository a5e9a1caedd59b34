use Rattle.std.proofs.Common.{◌≡◌, subst}
use Rattle.mst_sweep.specs.Failures.{failures}
use Rattle.mst_sweep.specs.SweepText.{IsSweep}
use Rattle.mst_sweep.proofs.OneSweep.{one_sweep, count_same}
use Rattle.mst_sweep.proofs.laws.one_sweep.Goals as goal

pub returns : goal.returns
returns g net o p rows other c d is oa pa x y =
    let same : p ≡ o = g.one_outcome.ensures net p o is pa oa in
    let z : IsSweep net o other d = subst (λ q. IsSweep net q other d) same y in
    let one = g.islands_of_vid.ensures.one in
    let grouping = g.group_lists.ensures.one in (
      one_sweep one grouping g.one_outcome.ensures net o is (failures net) rows other c d x z,
      count_same one grouping g.one_outcome.ensures net o is (failures net) rows other c d x z,
    )
