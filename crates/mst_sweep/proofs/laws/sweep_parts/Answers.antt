use Rattle.std.proofs.Common.{◌≡◌, List, sym, subst}
use Rattle.mst_sweep.specs.declared.failure.Failure.{Failure}
use Rattle.mst_sweep.specs.Failures.{failures}
use Rattle.mst_sweep.specs.SweepText.{IsSweepOf}
use Rattle.mst_sweep.specs.SweepParts.{IsSweepPart, part_of}
use Rattle.mst_sweep.proofs.OneSweep.{all_told, one_sweep, count_same}
use Rattle.mst_sweep.proofs.PartsJoined.{lengths_near}
use Rattle.mst_sweep.proofs.SweptParts.{joined, whole_is}
use Rattle.mst_sweep.proofs.laws.sweep_parts.Goals as goal

pub returns-clause-one : goal.returns-clause-one
returns-clause-one g net o p part rows other c d is oa pa x y =
    let same : p ≡ o = g.one_outcome.ensures net p o is pa oa in
    let z : IsSweepPart part net o other d = subst (λ q. IsSweepPart part net q other d) same y in
    let one = g.islands_of_vid.ensures.one in
    let grouping = g.group_lists.ensures.one in
    let fs : List Failure = part_of part (failures net) in (
      one_sweep one grouping g.one_outcome.ensures net o is fs rows other c d x z,
      count_same one grouping g.one_outcome.ensures net o is fs rows other c d x z,
    )

pub returns-clause-joined : goal.returns-clause-joined
returns-clause-joined g net o count parts rows cuts is oa some are x =
    joined net o (all_told g.islands_of_vid.ensures.one g.group_lists.ensures.one g.one_outcome.ensures net o is (failures net)) count some parts rows cuts are x

pub returns-clause-lengths : goal.returns-clause-lengths
returns-clause-lengths g net part is = lengths_near (failures net) part is.0 is.1

pub returns-clause-whole : goal.returns-clause-whole
returns-clause-whole g net o rows cuts =
    let same = whole_is (failures net) in (
      λ x. subst (λ (fs : List Failure). IsSweepOf net o fs rows cuts) same x,
      λ x. subst (λ (fs : List Failure). IsSweepOf net o fs rows cuts) (sym same) x,
    )
