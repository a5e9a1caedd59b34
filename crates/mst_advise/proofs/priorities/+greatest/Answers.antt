use Rattle.std.proofs.Common.{Some, sym, ap, ◌∙◌}
use Rattle.mst_advise.specs.Seen.{seen_first}
use Rattle.mst_advise.proofs.GreatestUpto.{greatest_below, greatest_here, greatest_none}
use Rattle.mst_advise.proofs.priorities.+greatest.Goals as goal

pub returns-then-comes_first : goal.returns-then-comes_first
returns-then-comes_first t c =
    let passes = seen_first c.args.tree c.args.mac c.args.ids.now in
    let same = c.priority_of-priority.ensures in
    ap Some same ∙ sym (greatest_here passes c.args.step (ap passes (sym same) ∙ sym c.comes_first.ensures ∙ c.if-comes_first.true))

pub returns-then-step-eq0 : goal.returns-then-step-eq0
returns-then-step-eq0 t c =
    let passes = seen_first c.args.tree c.args.mac c.args.ids.now in
    sym (greatest_none passes c.args.step c.if-step-eq0.true (ap passes (sym c.priority_of-priority.ensures) ∙ sym c.comes_first.ensures ∙ c.if-comes_first.false))

pub returns-else-step-eq0 : goal.returns-else-step-eq0
returns-else-step-eq0 t c =
    let passes = seen_first c.args.tree c.args.mac c.args.ids.now in
    c.greatest.ensures ∙ sym (greatest_below passes c.args.step c.if-step-eq0.false (ap passes (sym c.priority_of-priority.ensures) ∙ sym c.comes_first.ensures ∙ c.if-comes_first.false))
