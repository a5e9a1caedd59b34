use Rattle.std.proofs.Common.{[], None, refl}
use Rattle.mst_verdict.specs.telling.Judged.{counts_of}
use Rattle.mst_tool.proofs.engine_lemmas.print_lemmas.Shown.{grew_none}
use Rattle.mst_verifying.specs.Verify.{verify_row}
use Rattle.mst_verifying.proofs.WholeVerify.{promises_shown}
use Rattle.mst_verifying.proofs.verifies.verified.Goals as goal

pub returns-clause-told : goal.returns-clause-told
returns-clause-told c =
    let net = c.args.planner.now.contents.net in
    let printer = c.in_ok-printer.printer in
    let put = c.in_ok-verdict.ensures.told printer [] (grew_none printer) in
    promises_shown c.args.form net net c.args.policy.now (counts_of c.in_ok-verdict.verdict) put.0 c.in_ok-text.text.items refl put.1
    (c.in_ok-text.ensures c.args.form None verify_row printer put.0 c.in_ok-printer.ensures put.2)
