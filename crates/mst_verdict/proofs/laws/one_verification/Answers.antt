use Rattle.mst_verify.specs.tree_judges.judged.reasons.Risks.{events}
use Rattle.mst_telling.specs.Verified.{IsToldWhereBroken, IsVerdict}
use Rattle.mst_verdict.proofs.Judgements.{zip_weaker}
use Rattle.mst_verdict.proofs.laws.one_verification.Goals as goal

pub returns-clause-some : goal.returns-clause-some
returns-clause-some c = λ net lines ok.
    let o = c.has_outcome.ensures net ok in
    let those = events net lines in
    let v = c.one_verified.ensures.some net o.0 lines ok o.1 in (
      v.0,
      v.1,
      record {
        outcome = o.0;
        is_outcome = o.1;
        told = v.2;
        broken = zip_weaker (IsVerdict net o.0 those) (IsToldWhereBroken net o.0 those) (λ line rows is. c.told_where_unkept.ensures net o.0 those line rows ok o.1 is) lines v.2.told v.2.each;
      },
    )

pub returns-clause-one : goal.returns-clause-one
returns-clause-one c = λ net lines n m rows other ok a b. c.one_verified.ensures.one net a.outcome b.outcome lines n m rows other ok a.is_outcome b.is_outcome a.told b.told
