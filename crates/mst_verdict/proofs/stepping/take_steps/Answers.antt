use Rattle.std.proofs.Common.{◌≡◌, ◌+◌, List, [], arith, append-nil, refl, subst, sym, ap, take, ◌∙◌}
use Rattle.mst_net.specs.tables.Tables.{Net}
use Rattle.mst_rows.specs.Rows.{Row}
use Rattle.mst_verdict.specs.Setting.{after_steps}
use Rattle.mst_verdict.specs.Stepping.{AreRowsIn, IsFew}
use Rattle.mst_verdict.specs.Taking.{TakesSteps}
use Rattle.mst_verdict.specs.declared.stepping.Course.{Course}
use Rattle.mst_sweeping.specs.Sweeping.{Puts}
use Rattle.mst_sweeping.proofs.Swept.{put_then}
use Rattle.mst_telling.specs.Judged.{told_in}
use Rattle.mst_verdict.proofs.Walked.{few_more, few_none, judged_here, net_more, refused_counted, steps_counted, takes_more, takes_none}
use Rattle.mst_verdict.proofs.stepping.take_steps.Goals as goal

pub overflow_add-number : goal.overflow_add-number
overflow_add-number g c =
    omega (arith, steps_counted c.args.steps.now c.loop-step.step-index c.step-item.result c.loop-step-test.true c.step-item.is c.step-item.result refl c.loop-step.course c.loop-step.invariant.few)

pub with-course-requires-clause-refused : goal.with-course-requires-clause-refused
with-course-requires-clause-refused g c =
    omega (
      arith,
      c.requires.few,
      refused_counted c.args.steps.now c.loop-step.step-index c.step-item.result c.loop-step-test.true c.step-item.is c.lines.result.now c.lines.ensures c.loop-step.course c.loop-step.invariant.few
          c.in_ok-behind.behind.taken c.in_ok-behind.ensures.few,
    )

pub with-course-requires-clause-steps : goal.with-course-requires-clause-steps
with-course-requires-clause-steps g c =
    omega (arith, steps_counted c.args.steps.now c.loop-step.step-index c.step-item.result c.loop-step-test.true c.step-item.is c.step-item.result refl c.loop-step.course c.loop-step.invariant.few)

pub loop-step-init : goal.loop-step-init
loop-step-init g c =
    let grew = g.R.Rows.grew in
    let new = c.new-course.ensures in
    record {
      network = refl;
      plan = c.requires.plan;
      few = subst (λ (course : Course). IsFew course []) (sym (new [])) (few_none []);
      told = λ w watching first start.
          subst (λ (course : Course). TakesSteps w [] (told_in w.lines c.args.start) course (Puts grew c.args.out.now c.args.out.now)) (sym (new w.lines))
          (takes_none w (told_in w.lines c.args.start) (Puts grew c.args.out.now c.args.out.now) (subst (λ (net : Net). AreRowsIn w 0 net (told_in w.lines c.args.start)) (sym first) start)
          (λ before rows h. subst (λ (all : List Row). grew before c.args.out.now all) (sym (append-nil rows)) h));
    }

pub loop-step-preserved : goal.loop-step-preserved
loop-step-preserved g c =
    let grew = g.R.Rows.grew in
    let here = c.loop-step.network.net in
    let steps = c.args.steps.now in
    let i = c.loop-step.step-index in
    let step = c.step-item.result in
    let below = c.loop-step-test.true in
    let lines = c.lines.result.now in
    let course = c.loop-step.course in
    let was = c.loop-step.invariant in
    let behind = c.in_ok-behind.behind in
    let one = c.in_ok-behind.ensures in
    record {
      network = one.network ∙ net_more steps i step below c.step-item.is lines c.lines.ensures c.args.network.now.net here was.network;
      plan = one.plan;
      few = subst (λ (course : Course). IsFew course (take (i + 1) steps)) (sym c.with-course.ensures) (few_more steps i step below c.step-item.is lines c.lines.ensures course was.few behind.taken one.few);
      told = λ w watching first start.
          let so : here ≡ after_steps w.first (take i steps) = was.network ∙ ap (λ (net : Net). after_steps net (take i steps)) (sym first) in
          let so_far = was.told w watching first start in
          let before = told_in w.lines c.loop-step.judgement in
          let judged = judged_here steps i step below c.step-item.is lines c.lines.ensures course was.few w here so before so_far.judged in
          subst (λ (course : Course). TakesSteps w (take (i + 1) steps) (told_in w.lines behind.judgement) course (Puts grew c.args.out.now c.take_step.new.out)) (sym c.with-course.ensures)
          (takes_more steps i step below c.step-item.is lines c.lines.ensures course was.few w here so before (told_in w.lines behind.judgement) behind.taken
          (Puts grew c.args.out.now c.loop-step.out) (Puts grew c.loop-step.out c.take_step.new.out) (Puts grew c.args.out.now c.take_step.new.out)
          (λ rows own x y. put_then grew c.args.out.now c.loop-step.out c.take_step.new.out rows own x y) so_far (one.told w watching judged));
    }
