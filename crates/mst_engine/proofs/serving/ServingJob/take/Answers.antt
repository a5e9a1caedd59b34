use Rattle.mst_report.specs.Planned.{planned_state}
use Rattle.mst_engine.specs.Engine.{replied, reply_text, shape_of}
use Rattle.mst_engine.proofs.ServedBy.{line_told}
use Rattle.std.proofs.Common.{sym, ap}
use Rattle.mst_engine.proofs.serving.ServingJob.take.Goals as goal

pub returns-clause-tells : goal.returns-clause-tells
returns-clause-tells c =
    let job = c.args.self.now in
    let r = c.reply-reply in
    let shape = shape_of job.input in
    line_told job r.new.self c.args.number c.args.line.now (reply_text shape c.args.number r.result) (replied shape job.engine.number (planned_state r.new.self.planner) r.result)
    (ap (λ n. reply_text shape n r.result) (sym c.requires.awaits.numbered)) c.requires.awaits.numbered r.ensures.served r.ensures.counted
