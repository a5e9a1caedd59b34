use Rattle.std.proofs.Common.{◌+◌, ◌≤◌, arith, length, subst, sym}
use Rattle.std.proofs.lemmas.Result.{IfOk-weaker}
use Rattle.std.specs.Result.{IfOk}
use Rattle.mst_tables.specs.Contents.{Contents}
use Rattle.mst_verifying.specs.Verify.{TellsAnswer, told_in}
use Rattle.mst_verifying.specs.declared.question.PolicyQuestion.{PolicyQuestion}
use Rattle.mst_verifying.specs.declared.question.PolicyQuestion.TheVariants.{Promises, Risks}
use Rattle.mst_verifying.proofs.verifies.answered.Goals as goal

pub returns-in-Promises-clause-told : goal.returns-in-Promises-clause-told
returns-in-Promises-clause-told c =
    let form = c.args.form in
    let lines = c.args.policy.now in
    subst (λ (question : PolicyQuestion). IfOk c.verified.result (λ found. TellsAnswer form question c.args.planner.now.contents.net lines (told_in found) found.text.items)) (sym c.in-Promises.is)
    (subst (λ (k : Contents). IfOk c.verified.result (λ found. TellsAnswer form Promises k.net lines (told_in found) found.text.items)) c.settle.ensures.same c.verified.ensures.told)

pub returns-in-Risks-clause-told : goal.returns-in-Risks-clause-told
returns-in-Risks-clause-told c =
    let form = c.args.form in
    let lines = c.args.policy.now in
    subst (λ (question : PolicyQuestion). IfOk c.swept.result (λ found. TellsAnswer form question c.args.planner.now.contents.net lines (told_in found) found.text.items)) (sym c.in-Risks.is)
    (subst (λ (k : Contents). IfOk c.swept.result (λ found. TellsAnswer form Risks k.net lines (told_in found) found.text.items)) c.settle.ensures.same c.swept.ensures.told)

pub returns-in-Risks-clause-few : goal.returns-in-Risks-clause-few
returns-in-Risks-clause-few c = IfOk-weaker c.swept.result _ _ (λ found few. let more : found.refused ≤ length c.args.policy.now + 1 = omega (arith, few) in more) c.swept.ensures.few
