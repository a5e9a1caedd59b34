use Rattle.std.proofs.Common.{rules, ◌∙◌, ap}
use Rattle.mst_lang.specs.Reading.{reading_as}
use Rattle.mst_questions.specs.tool.engine.report.Planned.{planned_state}
use Rattle.mst_ask.specs.Kept.{made_by, net_of_script}
use Rattle.mst_ask.proofs.Kept.{line_more}
use Rattle.mst_ask.proofs.standing.Standing.before.Goals as goal

pub loop-line-preserved : goal.loop-line-preserved
loop-line-preserved c =
    let kept = c.args.self.now in
    let was = (planned_state c.loop-line.planner).net in
    line_more kept.version (net_of_script kept.script.items) was (planned_state c.make_again.new.planner).net kept.made.items c.args.left c.loop-line.line-index c.line-item.result (search rules) (search rules) c.loop-line.invariant
    (c.in_ok-make_again.ensures ∙ ap (λ line. made_by (reading_as kept.version line) was) c.as_slice-in-loop-line.ensures.value)
