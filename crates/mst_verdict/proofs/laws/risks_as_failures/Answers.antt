use Rattle.std.proofs.Common.{◌≡◌, ◌∙◌, [], ◌∷◌, ◌++◌, List, None, append-nil, ap, refl}
use Rattle.std.specs.List.{AllByRecursion, cons_option, filter, filter_map}
use Rattle.mst_graph.specs.Lists.{has_any}
use Rattle.mst_policy.specs.Lines.{risk_in}
use Rattle.mst_policy.specs.declared.policy.PolicyLine.{PolicyLine}
use Rattle.mst_policy.specs.declared.risk.RiskLine.{RiskLine}
use Rattle.mst_sweeping.specs.sweep.Failures.{Event, single_events}
use Rattle.mst_verify.specs.tree_judges.judged.reasons.Risks.{events, is_whole, named_risks}
use Rattle.mst_verdict.proofs.AsFailure.{rows_turned, told_alike}
use Rattle.mst_verdict.proofs.laws.risks_as_failures.Goals as goal

pub returns-clause-told : goal.returns-clause-told
returns-clause-told c = λ net o lines name failure n words others promise rows like ok is there x y.
    told_alike net o ok is c.one_outcome.ensures c.reason_lists.ensures.one lines name failure there n words others promise (λ line rows told. c.told_where_unkept.ensures net o (events net lines) line rows ok is told) rows like x y

pub returns-clause-reasons : goal.returns-clause-reasons
returns-clause-reasons c = λ net o prior event other expectation reasons. (λ h. h, λ h. h)

pub returns-clause-rows : goal.returns-clause-rows
returns-clause-rows c = rows_turned

none_said : (lines : List PolicyLine) → AllByRecursion (λ line. risk_in line.read ≡ None) lines → filter_map (λ (line : PolicyLine). risk_in line.read) lines ≡ []
none_said [] none = refl
none_said (line ∷ lines) none = λ i. cons_option (none.0 i) (none_said lines none.1 i)

pub returns-clause-without : goal.returns-clause-without
returns-clause-without c = λ net lines none.
    ap (λ (said : List RiskLine). single_events net ++ filter (λ (event : Event). has_any event.failures) (named_risks net (filter (is_whole net) said))) (none_said lines none) ∙ append-nil (single_events net)
