use Rattle.std.proofs.Common.{[], ◌∷◌, ◌++◌, List, Option, length, refl, subst}
use Rattle.std.specs.Option.{option_map}
use Rattle.mst_policy.specs.declared.policy.PolicyLine.{PolicyLine}
use Rattle.mst_rows.specs.Rows.{Row}
use Rattle.mst_verdict.specs.Stepping.{AreWatched, course_row, front_rows_if}
use Rattle.mst_sweeping.specs.Sweeping.{Puts}
use Rattle.mst_sweeping.proofs.Swept.{put_then}
use Rattle.mst_verdict.proofs.stepping.step_network.Goals as goal

pub returns-clause-told : goal.returns-clause-told
returns-clause-told g c =
    let net = c.args.network.now.net in
    let steps = c.args.steps.now in
    let grew = g.R.Rows.grew in
    let course = c.in_ok-next.course in
    let policy : Option (List PolicyLine) = option_map (λ p. p.now) c.args.policy in
    let said = c.in_ok-next.ensures.told in
    let front : List Row = front_rows_if policy in
    let last : List Row = course_row policy course ∷ [] in
    let put_front : Puts grew c.args.out.now c.put_unread.new.out front = λ first before h. c.in_ok-unread.ensures.put first before h in
    let put_each : Puts grew c.put_unread.new.out c.watch_steps.new.out said.0 = said.2 in
    let put_last : Puts grew c.watch_steps.new.out c.put_course.new.out last = λ first before h. c.in_ok-put_course.ensures first before h in (
      front ++ said.0 ++ last,
      record {
        each = said.0;
        are_each = subst (λ (lines : List PolicyLine). AreWatched net steps lines (length front) course said.0) c.lines_in-lines.ensures
            (subst (λ unread. AreWatched net steps c.lines_in-lines.result.now unread course said.0) c.in_ok-unread.ensures.count said.1);
        are = refl;
      },
      put_then grew c.args.out.now c.watch_steps.new.out c.put_course.new.out (front ++ said.0) last (put_then grew c.args.out.now c.put_unread.new.out c.watch_steps.new.out front said.0 put_front put_each) put_last,
    )
