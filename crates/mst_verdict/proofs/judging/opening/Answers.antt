use Rattle.std.proofs.Common.{length, ap, subst, sym, ◌∙◌}
use Rattle.mst_sweeping.specs.sweep.vlan.classes.Classes.{AreClasses}
use Rattle.mst_forest.specs.Settled.{SettledNet}
use Rattle.mst_verify.specs.tree_judges.judged.Islands.{HasIslandsOf, IsOfPlan}
use Rattle.mst_verify.specs.tree_judges.judged.reasons.Risks.{events}
use Rattle.mst_verify.specs.tree_judges.judged.Seen.{IsBefore}
use Rattle.mst_verdict.specs.Verifying.{AreLacking}
use Rattle.mst_verdict.proofs.Judgements.{as_many}
use Rattle.mst_verdict.proofs.judging.opening.Goals as goal

pub all_lacking-requires : goal.all_lacking-requires
all_lacking-requires c = c.requires.events ∙ ap (λ (s : SettledNet). events s.net c.args.lines.now) (sym c.new-settled.ensures)

pub every_asked-asked-requires : goal.every_asked-asked-requires
every_asked-asked-requires c = ap length c.as_slice.ensures.value ∙ as_many c.new-settled.result.net c.args.asking.now.is_last c.args.lines.now c.in_ok-missing.missing.items c.in_ok-missing.ensures

pub with_islands-requires : goal.with_islands-requires
with_islands-requires c = subst (λ (s : SettledNet). IsOfPlan s c.args.carriage.now) (sym c.new-settled.ensures) c.requires.carriage

pub returns-clause-islands : goal.returns-clause-islands
returns-clause-islands c = subst (λ (s : SettledNet). HasIslandsOf c.args.carriage.now s.numbers c.in_ok-before.before) c.new-settled.ensures c.in_ok-before.ensures.islands

pub returns-clause-opened : goal.returns-clause-opened
returns-clause-opened c =
    let e = c.new-settled.ensures in
    record {
      lacking = subst (λ (s : SettledNet). AreLacking s.net c.args.asking.now.is_last c.args.lines.now c.in_ok-missing.missing.items) e c.in_ok-missing.ensures;
      classes = subst (λ (s : SettledNet). AreClasses s.view c.in_ok-before.before.classes) e c.in_ok-before.ensures.classes;
      before = subst (λ (s : SettledNet). IsBefore s.net c.in_ok-before.before) e c.in_ok-before.ensures.ports;
    }
