use Rattle.std.proofs.Common.{subst}
use Rattle.std.specs.List.{range_with_len}
use Rattle.mst_plan.specs.forest.Outcome.{Outcome}
use Rattle.mst_sweep.specs.SweepParts.{ToldOfPart, IsSweepPart}
use Rattle.mst_sweeping.specs.Sweeping.{SweepsPart}
use Rattle.mst_sweeping.proofs.SweepThere.{has_part}
use Rattle.mst_sweeping.proofs.SweptParts.{each_zipped}
use Rattle.mst_sweeping.proofs.laws.sweep_parts.Goals as goal

pub returns-clause-some : goal.returns-clause-some
returns-clause-some c net part is = has_part net is c.has_outcome.ensures c.one_event.ensures.some part

pub returns-clause-one : goal.returns-clause-one
returns-clause-one c net part rows other n m ok a b = c.sweep_parts.ensures.one net a.outcome b.outcome part rows other n m ok a.is_outcome b.is_outcome a.told b.told

pub returns-clause-joined : goal.returns-clause-joined
returns-clause-joined c net count parts rows cuts ok some are x =
    let o : Outcome = x.outcome in
    c.sweep_parts.ensures.joined net o count parts rows cuts ok x.is_outcome some
    (each_zipped (λ number (part : ToldOfPart). SweepsPart (record { number = number; count = count }) net part.cuts part.rows)
    (λ number (part : ToldOfPart). IsSweepPart (record { number = number; count = count }) net o part.rows part.cuts)
    (λ number part told. subst (λ q. IsSweepPart (record { number = number; count = count }) net q part.rows part.cuts) (c.one_outcome.ensures net told.outcome o ok told.is_outcome x.is_outcome) told.told)
    (range_with_len 1 count) parts are)
    x.told

pub returns-clause-whole : goal.returns-clause-whole
returns-clause-whole c net rows cuts = (
  λ x. record { outcome = x.outcome; is_outcome = x.is_outcome; told = (c.sweep_parts.ensures.whole net x.outcome rows cuts).0 x.told },
  λ x. record { outcome = x.outcome; is_outcome = x.is_outcome; told = (c.sweep_parts.ensures.whole net x.outcome rows cuts).1 x.told },
)
