use Rattle.std.proofs.Common.{Some, sym, ap, ◌∙◌}
use Rattle.mst_advise.specs.PortPriorities.{is_before}
use Rattle.mst_advise.proofs.GreatestUpto.{greatest_below, greatest_here, greatest_none}
use Rattle.mst_advise.proofs.port_priorities.+greatest_before.Goals as goal

pub returns-then-comes_before : goal.returns-then-comes_before
returns-then-comes_before t c =
    let passes = is_before c.args.number c.args.id in
    let same = c.priority_of-priority.ensures in
    let test = ap passes (sym c.priority_of-priority.ensures) ∙ sym c.comes_before.ensures in
    ap Some same ∙ sym (greatest_here passes c.args.step (test ∙ c.if-comes_before.true))

pub returns-then-step-eq0 : goal.returns-then-step-eq0
returns-then-step-eq0 t c =
    let passes = is_before c.args.number c.args.id in
    let test = ap passes (sym c.priority_of-priority.ensures) ∙ sym c.comes_before.ensures in
    sym (greatest_none passes c.args.step c.if-step-eq0.true (test ∙ c.if-comes_before.false))

pub returns-else-step-eq0 : goal.returns-else-step-eq0
returns-else-step-eq0 t c =
    let passes = is_before c.args.number c.args.id in
    let test = ap passes (sym c.priority_of-priority.ensures) ∙ sym c.comes_before.ensures in
    c.greatest_before.ensures ∙ sym (greatest_below passes c.args.step c.if-step-eq0.false (test ∙ c.if-comes_before.false))
