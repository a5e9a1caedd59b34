use Rattle.std.proofs.Common.{ap, inl}
use Rattle.mst_questions.specs.tool.engine.report.State.{State}
use Rattle.mst_tracing.specs.Trace.{answer_text, told_of}
use Rattle.mst_ask.specs.Kept.{standing_of}
use Rattle.mst_ask.specs.Replies.{replied}
use Rattle.mst_ask.specs.declared.reply.Reply.TheVariants.{Traced}
use Rattle.mst_ask.proofs.standing.Standing.trace.Goals as goal

pub returns-in-Ok-clause-asked : goal.returns-in-Ok-clause-asked
returns-in-Ok-clause-asked c number line =
    let form = c.args.self.now.form in
    let answer = c.in-Ok.answer in
    inl (told_of answer, answer_text form answer, c.in-Ok.ensures.answer, ap (λ (s : State). replied form number (record (standing_of c.args.self.now) { state = s }) (Traced answer)) c.in-Ok.ensures.state)
