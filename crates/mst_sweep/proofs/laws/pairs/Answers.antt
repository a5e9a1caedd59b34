use Rattle.std.proofs.Common.{◌≡◌, List, sym, subst}
use Rattle.mst_sweep.specs.Failures.{failures}
use Rattle.mst_sweep.specs.Pairs.{Pair, pairs_of, IsPairsOf, IsPairsPart, IsPairTold, last_of_pairs}
use Rattle.mst_sweep.specs.SweepParts.{part_of}
use Rattle.mst_sweep.proofs.OnePairs.{all_pairs_told, pairs_there}
use Rattle.mst_sweep.proofs.OneSweep.{one_rows, one_count}
use Rattle.mst_sweep.proofs.PartsJoined.{lengths_near}
use Rattle.mst_sweep.proofs.SweptParts.{pairs_joined, whole_is}
use Rattle.mst_sweep.proofs.Windows.{twice}
use Rattle.mst_sweep.proofs.laws.pairs.Goals as goal

pub returns-clause-one : goal.returns-clause-one
returns-clause-one g net o p part rows other c d is oa pa x y =
    let same : p ≡ o = g.one_outcome.ensures net p o is pa oa in
    let z : IsPairsPart part net o other d = subst (λ q. IsPairsPart part net q other d) same y in
    let all : List Pair = part_of part (pairs_of (failures net)) in
    let single = all_pairs_told g.islands_of_vid.ensures.one g.group_lists.ensures.one g.one_outcome.ensures net o is all in
    (one_rows (IsPairTold net o) last_of_pairs all single rows other c d x z, one_count (IsPairTold net o) last_of_pairs all single rows other c d x z)

pub returns-clause-some : goal.returns-clause-some
returns-clause-some g net part is =
    let there = pairs_there g.islands_of_vid.ensures.some g.group_lists.ensures.some g.has_outcome.ensures net is (part_of part (pairs_of (failures net))) in
    let o = g.has_outcome.ensures net is in
    (o.0, there.1, there.0, o.1, there.2)

pub returns-clause-joined : goal.returns-clause-joined
returns-clause-joined g net o count parts rows cuts is some are x =
    pairs_joined net o (all_pairs_told g.islands_of_vid.ensures.one g.group_lists.ensures.one g.one_outcome.ensures net o is (pairs_of (failures net))) count some parts rows cuts are x

pub returns-clause-lengths : goal.returns-clause-lengths
returns-clause-lengths g net part is = lengths_near (pairs_of (failures net)) part is.0 is.1

pub returns-clause-many : goal.returns-clause-many
returns-clause-many g net = twice (failures net)

pub returns-clause-whole : goal.returns-clause-whole
returns-clause-whole g net o rows cuts =
    let same = whole_is (pairs_of (failures net)) in (
      λ x. subst (λ (all : List Pair). IsPairsOf net o all rows cuts) same x,
      λ x. subst (λ (all : List Pair). IsPairsOf net o all rows cuts) (sym same) x,
    )
