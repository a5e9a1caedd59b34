use Rattle.std.proofs.Common.{ap, ◌∙◌}
use Rattle.mst_ask.specs.Questions.{counted_more}
use Rattle.mst_ask.proofs.AskedBy.{counted_on, line_told}
use Rattle.mst_ask.proofs.questions.AskingJob.take.Goals as goal

pub returns-clause-tells : goal.returns-clause-tells
returns-clause-tells c =
    let job = c.args.self.now in
    let r = c.ask-reply in
    line_told job c.count.new.self r.new.self c.args.number c.args.line.now r.result r.ensures.same r.ensures.asked
    (c.count.ensures ∙ ap (λ v. counted_more (record job { standing = r.new.self }) v) c.verdict.ensures)
