use Rattle.std.proofs.Common.{◌≤◌, length, List, subst}
use Rattle.std.proofs.lemmas.Result.{IfOk-weaker}
use Rattle.mst_tables.specs.Contents.{Contents}
use Rattle.mst_policy.specs.declared.policy.PolicyLine.{PolicyLine}
use Rattle.mst_verdict.specs.Risking.{TellsRisks}
use Rattle.mst_verifying.proofs.verifying.put_risks.Goals as goal

pub returns-clause-told : goal.returns-clause-told
returns-clause-told g c first before grew =
    IfOk-weaker c.sweep_policy.result _ _
    (λ counts said. (
      said.0,
      subst (λ (lines : List PolicyLine). TellsRisks c.args.planner.now.contents.net lines counts said.0) c.as_slice.ensures
          (subst (λ (n : Contents). TellsRisks n.net c.as_slice.result.now counts said.0) c.network.ensures said.1),
      said.2 first before grew,
    ))
    c.sweep_policy.ensures.told

pub returns-clause-few : goal.returns-clause-few
returns-clause-few g c = IfOk-weaker c.sweep_policy.result _ _ (λ counts few. subst (λ (lines : List PolicyLine). counts.refused ≤ length lines) c.as_slice.ensures few) c.sweep_policy.ensures.few
