use Rattle.std.proofs.Common.{◌≡◌, take, unwrap_or}
use Rattle.mst_sweeping.specs.plan.Plan.{IsPlan}
use Rattle.mst_verdict.specs.Setting.{after_steps}
use Rattle.mst_verdict.specs.Stepping.{AreRowsIn, IsFew, Watch}
use Rattle.mst_verdict.specs.Taking.{IsWatching, TakesSteps}
use Rattle.mst_sweeping.specs.Sweeping.{Puts}
use Rattle.mst_telling.specs.Judged.{told_in}
use Rattle.mst_verdict.proofs.stepping.take_steps.Given as goal

-- what the steps so far do, with the plan and the judgement of the network that they have made
abbrev pub invariant-loop-step : goal.invariant-loop-step
invariant-loop-step g l = record {
  network : l.network.net ≡ after_steps l.fn.network.net (take l.step-index l.steps);
  plan : IsPlan l.network.net l.network.numbers (unwrap_or l.plan l.fn.first);
  few : IsFew l.course (take l.step-index l.steps);
  told : (w : Watch) → IsWatching l.fn.watching w → w.first ≡ l.fn.network.net → AreRowsIn w 0 l.fn.network.net (told_in w.lines l.fn.start) → TakesSteps w (take l.step-index l.steps) (told_in w.lines l.judgement) l.course (Puts g.R.Rows.grew l.fn.out l.out);
}
