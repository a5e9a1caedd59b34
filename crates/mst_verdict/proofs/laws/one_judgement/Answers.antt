use Rattle.mst_verify.specs.tree_judges.judged.reasons.Risks.{events}
use Rattle.mst_verdict.proofs.OneJudgement.{judged_same, judged_some, of_network}
use Rattle.mst_verdict.proofs.laws.one_judgement.Goals as goal

pub returns-clause-some : goal.returns-clause-some
returns-clause-some c = λ net prior is_last lines ok of.
    let o = c.has_outcome.ensures net ok in
    let those = events net lines in
    judged_some net prior is_last lines o.0 o.1 (λ line rows told. c.line_where_unkept.ensures net o.0 prior those line rows ok o.1 told) (λ line. c.told_lines.ensures.some net o.0 prior those line ok o.1 (of_network prior of))

pub returns-clause-one : goal.returns-clause-one
returns-clause-one c = λ net prior is_last lines told other ok of a b.
    judged_same net prior is_last lines (λ o p. c.one_outcome.ensures net o p ok) (λ o line rows others is. c.told_lines.ensures.one net o o prior (events net lines) line rows others ok is is) told other a b
