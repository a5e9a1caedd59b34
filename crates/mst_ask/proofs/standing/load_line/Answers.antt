use Rattle.std.proofs.lemmas.Result.{on_ok_weaker, on_err_weaker}
use Rattle.mst_questions.specs.tool.engine.Engine.{shape_of, replied}
use Rattle.mst_questions.specs.tool.engine.report.Planned.{planned_state}
use Rattle.mst_ask.proofs.standing.load_line.Goals as goal

pub returns-clause-ok : goal.returns-clause-ok
returns-clause-ok g c =
    let r = c.reply-reply in
    let made = replied (shape_of c.args.input) c.args.engine.now.number (planned_state r.new.self.planner) r.result in
    on_ok_weaker c.print.result (λ written. (made, r.ensures.served, r.ensures.counted, written)) c.print.ensures.ok

pub returns-clause-err : goal.returns-clause-err
returns-clause-err g c =
    let r = c.reply-reply in
    let made = replied (shape_of c.args.input) c.args.engine.now.number (planned_state r.new.self.planner) r.result in
    on_err_weaker c.print.result (λ front. (made, r.ensures.served, c.known.ensures, front)) c.print.ensures.err
