use Rattle.std.proofs.Common.{◌++◌, ◌∙◌, List, ap, refl, sym, subst}
use Rattle.mst_rows.specs.Rows.{Row}
use Rattle.mst_verdict.specs.Verifying.{plan_outcome}
use Rattle.mst_sweeping.proofs.Swept.{put_then}
use Rattle.mst_telling.specs.Judged.{told_in}
use Rattle.mst_telling.specs.Steps.{start_rows}
use Rattle.mst_verdict.specs.Stepping.{IsFew, Watch, watch_of}
use Rattle.mst_verdict.specs.Taking.{course_for}
use Rattle.mst_verdict.specs.declared.stepping.Course.{Course}
use Rattle.mst_verdict.proofs.Judgements.{prior_of}
use Rattle.mst_verdict.proofs.Watched.{was_settled}
use Rattle.mst_verdict.proofs.stepping.watch_steps.Goals as goal

pub returns-clause-told : goal.returns-clause-told
returns-clause-told g c =
    let old = c.args.network.now in
    let steps = c.args.steps.now in
    let lines = c.args.lines.now in
    let start = told_in lines c.in_ok-start.start in
    let last = told_in lines c.in_ok-behind.behind.judgement in
    let prior = prior_of old.net old.numbers c.args.first.now c.in_ok-carriage.carriage c.requires.plan c.in_ok-carriage.ensures in
    let w : Watch = watch_of old.net (plan_outcome old.net old.numbers c.args.first.now) steps lines in
    let judged = c.in_ok-start.ensures w (record { prior = prior; last = refl; lines = refl; leaving = c.in_ok-leaving.ensures }) in
    let took = c.in_ok-behind.ensures.told w (record { prior = prior; last = refl; lines = refl; leaving = c.in_ok-leaving.ensures }) refl judged in
    let first : List Row = start_rows lines start in (
      first ++ took.rows,
      record {
        outcome = plan_outcome old.net old.numbers c.args.first.now;
        is_outcome = was_settled (c.in_ok-carriage.carriage) (old.net, plan_outcome old.net old.numbers c.args.first.now) prior;
        start = start;
        told = took.are.told;
        last = last;
        judged_start = judged;
        each = took.are.each;
        judged_last = took.judged;
        counted = c.of_policy.ensures ∙ (λ i. course_for (took.are.counted i) c.args.unread (c.unkept_count-unkept.ensures i));
        are = ap (λ (more : List Row). first ++ more) took.are.are;
      },
      put_then g.R.Rows.grew c.args.out.now c.put_start.new.out c.take_steps.new.out first took.rows (λ before rows h. c.in_ok-put_start.ensures.put before rows h) took.put,
    )

pub returns-clause-few : goal.returns-clause-few
returns-clause-few g c =
    let few = c.in_ok-behind.ensures.few in
    subst (λ (course : Course). IsFew course c.args.steps.now) (sym c.of_policy.ensures) (record { refused = few.refused; steps = few.steps; moving = few.moving; cutting = few.cutting; failing = few.failing })
