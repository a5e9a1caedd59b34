use Rattle.std.proofs.Common.{◌++◌, ◌∙◌, List, ap, arith, refl, subst, sym}
use Rattle.mst_net.specs.tables.Tables.{Net}
use Rattle.mst_verdict.specs.Setting.{refused_lines}
use Rattle.mst_verdict.specs.Stepping.{IsStepTold, StepTold, changes_in}
use Rattle.mst_verdict.proofs.Made.{lines_few}
use Rattle.mst_sweeping.proofs.Swept.{put_then}
use Rattle.mst_sweeping.specs.StepText.{AreStepRows}
use Rattle.mst_sweeping.specs.declared.step.Deed.TheVariants as deed
use Rattle.mst_sweeping.specs.declared.step.Step.{Step}
use Rattle.mst_policy.specs.Leaving.{Leaving, leaving_of}
use Rattle.mst_policy.specs.declared.policy.PolicyLine.{PolicyLine}
use Rattle.mst_sweeping.specs.Sweeping.{Puts}
use Rattle.mst_telling.specs.Judged.{told_in}
use Rattle.mst_telling.specs.Steps.{breaks, changes, judged_rows}
use Rattle.mst_verdict.proofs.stepping.take_step.Goals as goal

pub plan_beside-requires : goal.plan_beside-requires
plan_beside-requires g c stand = c.in_ok-made.ensures.made.regions stand c.args.plan.now.regions c.requires.regions

pub put_between-requires-clause-old : goal.put_between-requires-clause-old
put_between-requires-clause-old g c = record { net = c.args.network.now.net; numbers = c.args.network.now.numbers; of = c.requires.of }

pub put_between-requires-clause-new : goal.put_between-requires-clause-new
put_between-requires-clause-new g c = record { net = c.make_lines.new.network.net; numbers = c.make_lines.new.network.numbers; of = c.in_ok-next.ensures.of }

pub returns-clause-told : goal.returns-clause-told
returns-clause-told g c w watching judged_before =
    let old = c.args.network.now in
    let now = c.make_lines.new.network in
    let number = c.args.number in
    let lines = c.args.lines.now in
    let grew = g.R.Rows.grew in
    let before = c.requires.forest in
    let after = c.in_ok-next.ensures.forest in
    let over = c.in_ok-replugged.ensures old.net c.in_ok-plugs.ensures in
    let said = c.in_ok-does.ensures old.net now.net old.numbers now.numbers c.requires c.in_ok-next.ensures over in
    let refused = refused_lines number old.net lines in
    let told : StepTold =
    record { number = number; refused = refused; own = said.0; does = c.in_ok-does.does; before = told_in w.lines c.args.before.now; now = told_in w.lines c.in_ok-now.now } in
    record {
      told = told;
      is = subst (λ (net : Net). IsStepTold w (record { number = number; lines = lines; before = old.net; now = net }) told) c.in_ok-made.ensures.made.net_is
          (record {
            before = before.outcome;
            is_before = before.is_outcome;
            now = after.outcome;
            is_now = after.is_outcome;
            number = refl;
            refused = refl;
            own = subst (λ (step : Step). AreStepRows (leaving_of w.lines) old.net before.outcome now.net after.outcome (deed.Step step) said.0 c.in_ok-does.does) c.step_of_lines.ensures
                (subst (λ (leaving : Leaving). AreStepRows leaving old.net before.outcome now.net after.outcome (deed.Step c.step_of_lines.result) said.0 c.in_ok-does.does) watching.leaving said.1);
            judged_before = judged_before;
            judged_now = c.in_ok-now.ensures w watching;
          });
      was = refl;
      follows = refl;
      counted = record {
        refused = c.in_ok-made.ensures.made.refused;
        does = refl;
        breaks = c.breaks.ensures ∙ ap (λ (lines : List PolicyLine). breaks (changes lines (told_in lines c.args.before.now) (told_in lines c.in_ok-now.now))) (sym watching.lines);
      };
      put = put_then grew c.args.out.now c.put_between.new.out c.put_judged.new.out (refused ++ said.0) (judged_rows number (changes_in w.lines told))
          (put_then grew c.args.out.now c.make_lines.new.out c.put_between.new.out refused said.0 (λ first rows h. c.in_ok-made.ensures.put first rows h) said.2)
          (subst (λ (lines : List PolicyLine). Puts grew c.put_between.new.out c.put_judged.new.out (judged_rows number (changes lines (told_in lines c.args.before.now) (told_in lines c.in_ok-now.now)))) (sym watching.lines) (λ first rows h. c.in_ok-put_judged.ensures first rows h));
    }

pub returns-clause-few : goal.returns-clause-few
returns-clause-few g c = omega (arith, c.in_ok-made.ensures.made.refused, lines_few c.args.number c.args.network.now.net c.args.lines.now)

pub returns-clause-network : goal.returns-clause-network
returns-clause-network g c = c.in_ok-made.ensures.made.net_is
