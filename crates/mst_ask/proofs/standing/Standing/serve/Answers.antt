use Rattle.std.proofs.Common.{Ok, inl, inr, refl, sym, subst}
use Rattle.mst_questions.specs.tool.engine.Engine.{replied as served}
use Rattle.mst_questions.specs.tool.engine.Script.{ServesRead}
use Rattle.mst_questions.specs.tool.engine.report.Planned.{planned_state}
use Rattle.mst_lang.specs.declared.line.Line.{Line as What}
use Rattle.mst_questions.specs.tool.engine.print.Shape.{of_script}
use Rattle.mst_questions.specs.tool.engine.print.declared.form.Shape.{Shape}
use Rattle.mst_ask.specs.Kept.{standing_of}
use Rattle.mst_ask.specs.Replies.{replied}
use Rattle.mst_ask.specs.Standing.{Asks}
use Rattle.mst_ask.specs.declared.reply.Reply.TheVariants.{Line}
use Rattle.mst_ask.specs.declared.request.Request.TheVariants.{Script}
use Rattle.mst_ask.proofs.standing.Standing.serve.Goals as goal

pub returns-in-Mark-clause-asked : goal.returns-in-Mark-clause-asked
returns-in-Mark-clause-asked c =
    let old = c.args.self.now in
    let form = old.form in
    let number = c.args.number in
    let now = planned_state old.planner in
    let next = planned_state c.serve.new.planner in
    let made = served (of_script form) number next c.serve.result in
    let serves : ServesRead (of_script form) number now (Ok c.args.said.now) made = subst (λ (shape : Shape). ServesRead shape number now (Ok c.args.said.now) (served shape number next c.serve.result)) c.shape-shape.ensures c.serve.ensures in
    let t = replied form number (standing_of (record old { planner = c.serve.new.planner })) (Line c.serve.result) in
    elim c.in-Mark.is [
      | inl mark ↦ subst (λ (said : What). Asks form number (standing_of old) c.args.line.now (Ok (Script said)) t) (sym mark) (made, subst (λ (said : What). ServesRead (of_script form) number now (Ok said) made) mark serves, refl)
      | inr query ↦ subst (λ (said : What). Asks form number (standing_of old) c.args.line.now (Ok (Script said)) t) (sym query.1) (made, subst (λ (said : What). ServesRead (of_script form) number now (Ok said) made) query.1 serves, refl)
    ]
