use Rattle.std.proofs.Common.{◌&&◌, ap, subst, ◌∙◌}
use Rattle.std.specs.List.{list_any}
use Rattle.mst_tables.specs.Tables.{port_eq}
use Rattle.mst_reasons.specs.sweep.vlan.classes.Classes.{AreInSame}
use Rattle.mst_judged.proofs.NamedIn.{enabled_named}
use Rattle.mst_judged.proofs.before.Before.new.Goals as goal

pub returns-clause-same : goal.returns-clause-same
returns-clause-same c = subst (λ sets. AreInSame sets c.in_ok-classes.classes) (c.as_slice.ensures.value ∙ c.in_ok-left.ensures) c.in_ok-classes.ensures.same

pub returns-clause-ports : goal.returns-clause-ports
returns-clause-ports c port =
    let s = c.args.plan.now in
    let is = c.known.ensures in
    c.in_ok-enabled.ensures port ∙ ap (λ v. list_any (λ p. p.is_enabled && port_eq p.name port) v.ports) c.view-view.ensures ∙ enabled_named s.net s.numbers s.view is.of.view port
