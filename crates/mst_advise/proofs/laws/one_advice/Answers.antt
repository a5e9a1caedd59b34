use Rattle.std.proofs.Common.{List, subst, sym}
use Rattle.mst_advise.specs.declared.setting.Setting.{Setting}
use Rattle.mst_advise.specs.Advising.{Tells}
use Rattle.mst_advise.proofs.OneAdvice.{one_told}
use Rattle.mst_advise.proofs.laws.one_advice.Goals as goal

pub returns : goal.returns
returns g net goal a b rows other ok x y =
    let outcomes = g.one_outcome.ensures in
    let o = x.outcome in
    one_told goal net o outcomes g.one_step.ensures ok x.is_outcome
    (λ (lists those : List (List Setting)) is are. g.one_candidates.ensures net o o goal lists those ok x.is_outcome x.is_outcome is are)
    a b rows other x.told
    (subst (λ q. Tells goal net q b other) (sym (outcomes net o y.outcome ok x.is_outcome y.is_outcome)) y.told)
