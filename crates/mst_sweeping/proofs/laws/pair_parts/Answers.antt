use Rattle.std.proofs.Common.{subst}
use Rattle.std.specs.List.{range_with_len}
use Rattle.mst_plan.specs.forest.Outcome.{Outcome}
use Rattle.mst_sweep.specs.Pairs.{IsPairsPart}
use Rattle.mst_sweep.specs.SweepParts.{ToldOfPart}
use Rattle.mst_sweeping.specs.Pairing.{SweepsPairs}
use Rattle.mst_sweeping.proofs.SweptParts.{each_zipped}
use Rattle.mst_sweeping.proofs.laws.pair_parts.Goals as goal

pub returns-clause-some : goal.returns-clause-some
returns-clause-some c net part is =
    let there = c.pairs.ensures.some net part is in
    (there.2, there.1, record { outcome = there.0; is_outcome = there.3; told = there.4 })

pub returns-clause-one : goal.returns-clause-one
returns-clause-one c net part rows other n m ok a b = c.pairs.ensures.one net a.outcome b.outcome part rows other n m ok a.is_outcome b.is_outcome a.told b.told

pub returns-clause-joined : goal.returns-clause-joined
returns-clause-joined c net count parts rows cuts ok some are x =
    let o : Outcome = x.outcome in
    c.pairs.ensures.joined net o count parts rows cuts ok some
    (each_zipped (λ number (part : ToldOfPart). SweepsPairs (record { number = number; count = count }) net part.cuts part.rows)
    (λ number (part : ToldOfPart). IsPairsPart (record { number = number; count = count }) net o part.rows part.cuts)
    (λ number part told. subst (λ q. IsPairsPart (record { number = number; count = count }) net q part.rows part.cuts) (c.one_outcome.ensures net told.outcome o ok told.is_outcome x.is_outcome) told.told)
    (range_with_len 1 count) parts are)
    ((c.pairs.ensures.whole net o rows cuts).0 x.told)
