use Rattle.std.proofs.Common.{◌+◌, ◌≤◌, length, List, subst}
use Rattle.std.proofs.lemmas.Result.{IfOk-weaker}
use Rattle.mst_tables.specs.Contents.{Contents}
use Rattle.mst_policy.specs.declared.policy.PolicyLine.{PolicyLine}
use Rattle.mst_verdict.specs.Verifying.{Verifies}
use Rattle.mst_verdict.specs.telling.Judged.{counts_of}
use Rattle.mst_verifying.proofs.verifying.put_verification.Goals as goal

pub returns-clause-told : goal.returns-clause-told
returns-clause-told g c first before grew =
    IfOk-weaker c.verify_network.result _ _
    (λ verdict said. (
      said.0,
      subst (λ (lines : List PolicyLine). Verifies c.args.planner.now.contents.net lines (counts_of verdict) said.0) c.as_slice.ensures
          (subst (λ (n : Contents). Verifies n.net c.as_slice.result.now (counts_of verdict) said.0) c.network.ensures said.1),
      said.2 first before grew,
    ))
    c.verify_network.ensures.told

pub returns-clause-few : goal.returns-clause-few
returns-clause-few g c = IfOk-weaker c.verify_network.result _ _ (λ verdict few. subst (λ (lines : List PolicyLine). verdict.refused ≤ length lines + 1) c.as_slice.ensures few) c.verify_network.ensures.few
