use Rattle.std.proofs.Common.{◌≡◌, take}
use Rattle.mst_questions.specs.tool.engine.report.Planned.{planned_state}
use Rattle.mst_ask.specs.Kept.{lines_kept, lines_net, net_of_script}
use Rattle.mst_ask.proofs.standing.Standing.before.Given as goal

abbrev pub invariant-loop-line : goal.invariant-loop-line
invariant-loop-line l = (planned_state l.planner).net ≡ lines_net l.fn.self.version (net_of_script l.fn.self.script.items) (take l.line-index (lines_kept l.fn.self))
