use Rattle.std.proofs.Common.{◌+◌, ◌-◌, Some, sym, ap, ◌∙◌, arith}
use Rattle.mst_advise.specs.PortPriorities.{is_behind}
use Rattle.mst_advise.proofs.GreatestUpto.{least_above, least_here, least_none}
use Rattle.mst_advise.proofs.port_priorities.+least_behind.Goals as goal

pub returns-then-comes_behind : goal.returns-then-comes_behind
returns-then-comes_behind t c =
    let passes = is_behind c.args.number c.args.id in
    let same = c.priority_of-priority.ensures in
    let test = ap passes (sym c.priority_of-priority.ensures) ∙ sym c.comes_behind.ensures in
    ap Some same ∙ sym (least_here passes c.args.step (15 - c.args.step) (test ∙ c.if-comes_behind.true))

pub returns-then-step-eq15 : goal.returns-then-step-eq15
returns-then-step-eq15 t c =
    let passes = is_behind c.args.number c.args.id in
    let test = ap passes (sym c.priority_of-priority.ensures) ∙ sym c.comes_behind.ensures in
    sym (least_none passes c.args.step (15 - c.args.step) (omega (arith, c.if-step-eq15.true)) (test ∙ c.if-comes_behind.false))

pub returns-else-step-eq15 : goal.returns-else-step-eq15
returns-else-step-eq15 t c =
    let passes = is_behind c.args.number c.args.id in
    let test = ap passes (sym c.priority_of-priority.ensures) ∙ sym c.comes_behind.ensures in
    c.least_behind.ensures
    ∙ sym (least_above passes c.args.step (15 - c.args.step) (c.args.step + 1) (15 - (c.args.step + 1)) (omega (arith, c.requires, c.if-step-eq15.false)) (omega arith) (test ∙ c.if-comes_behind.false))
