use Rattle.std.proofs.Common.{[], None, refl}
use Rattle.mst_tool.proofs.engine_lemmas.print_lemmas.Shown.{grew_none}
use Rattle.mst_verifying.specs.Verify.{risks_row}
use Rattle.mst_verifying.proofs.WholeVerify.{risks_shown}
use Rattle.mst_verifying.proofs.verifies.swept.Goals as goal

pub returns-clause-told : goal.returns-clause-told
returns-clause-told c =
    let net = c.args.planner.now.contents.net in
    let printer = c.in_ok-printer.printer in
    let put = c.in_ok-counts.ensures.told printer [] (grew_none printer) in
    risks_shown c.args.form net net c.args.policy.now c.in_ok-counts.counts put.0 c.in_ok-text.text.items refl put.1
    (c.in_ok-text.ensures c.args.form None risks_row printer put.0 c.in_ok-printer.ensures put.2)
