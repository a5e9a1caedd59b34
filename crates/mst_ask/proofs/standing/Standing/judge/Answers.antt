use Rattle.std.proofs.Common.{ap, inl}
use Rattle.mst_questions.specs.tool.engine.report.State.{State}
use Rattle.mst_verifying.specs.Verify.{told_in}
use Rattle.mst_ask.specs.Kept.{standing_of}
use Rattle.mst_ask.specs.Replies.{replied}
use Rattle.mst_ask.specs.declared.reply.Reply.TheVariants.{Verified}
use Rattle.mst_ask.proofs.standing.Standing.judge.Goals as goal

pub returns-in-Ok-clause-asked : goal.returns-in-Ok-clause-asked
returns-in-Ok-clause-asked c number line =
    let form = c.args.self.now.form in
    let found = c.in-Ok.found in
    inl (told_in found, found.text.items, c.in-Ok.ensures.told, ap (λ (s : State). replied form number (record (standing_of c.args.self.now) { state = s }) (Verified found)) c.in-Ok.ensures.state)
