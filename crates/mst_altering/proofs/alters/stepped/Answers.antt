use Rattle.std.proofs.Common.{◌≡◌, ◌+◌, ◌≤◌, ℕ, Bool, true, false, List, [], Option, None, length, arith, ap, subst}
use Rattle.mst_tables.specs.Contents.{Contents}
use Rattle.mst_policy.specs.declared.policy.PolicyLine.{PolicyLine}
use Rattle.mst_tool.proofs.engine_lemmas.print_lemmas.Shown.{grew_none}
use Rattle.mst_verdict.specs.Stepping.{lines_of}
use Rattle.mst_altering.specs.Alter.{policy_if, steps_row}
use Rattle.mst_altering.proofs.WholeAlter.{steps_shown}
use Rattle.mst_altering.proofs.alters.stepped.Goals as goal

pub returns-clause-told : goal.returns-clause-told
returns-clause-told c =
    let printer = c.in_ok-printer.printer in
    let put = c.in_ok-course.ensures.told printer [] (grew_none printer) in
    let both = c.args.both.now in
    steps_shown c.args.form c.args.planner.now.contents.net c.settle.new.self.contents.net both.change.ended (policy_if c.args.is_judged both.policy) _ c.in_ok-course.course put.0 c.in_ok-text.text.items
    (ap (λ (k : Contents). k.net) c.settle.ensures.same) c.judged.ensures put.1
    (c.in_ok-text.ensures c.args.form None steps_row printer put.0 c.in_ok-printer.ensures put.2)

-- a policy that isn't judged has no lines
few_judged : (judged : Bool) (lines : List PolicyLine) → length (lines_of (policy_if judged lines)) ≤ length lines
few_judged true lines = omega arith
few_judged false lines = omega arith

few_lines : (judged : Bool) (lines : List PolicyLine) (given : Option (List PolicyLine)) (unread : ℕ) → given ≡ policy_if judged lines → unread ≤ length (lines_of given) + 1 → unread ≤ length lines + 1
few_lines judged lines given unread same few =
    let now : unread ≤ length (lines_of (policy_if judged lines)) + 1 = subst (λ (p : Option (List PolicyLine)). unread ≤ length (lines_of p) + 1) same few in
    omega (arith, now, few_judged judged lines)

pub returns-clause-few_policy : goal.returns-clause-few_policy
returns-clause-few_policy c = few_lines c.args.is_judged c.args.both.now.policy _ c.in_ok-course.course.unread c.judged.ensures c.in_ok-course.ensures.few_policy
