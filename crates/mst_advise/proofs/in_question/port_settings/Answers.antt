use Rattle.std.proofs.Common.{Option, Some, None, sym, ap, subst, ◌∙◌}
use Rattle.std.specs.Prelude.{IfOk}
use Rattle.std.specs.Option.{option_copied}
use Rattle.mst_view.specs.View.{LogicalPort}
use Rattle.mst_roles.specs.forest.Settled.{outcome_of}
use Rattle.mst_advise.specs.InQuestion.{AreInQuestionOf}
use Rattle.mst_advise.proofs.PortsNamed.{port_is_named, port_is_there}
use Rattle.mst_advise.proofs.in_question.port_settings.Goals as goal

pub settings_of-requires : goal.settings_of-requires
settings_of-requires c = port_is_there c.args.plan.now c.args.name.now c.in-Some.port.now (sym c.port_named.ensures ∙ ap option_copied c.in-Some.is)

pub returns-in-None : goal.returns-in-None
returns-in-None c =
    let s = c.args.plan.now in
    subst (λ (found : Option LogicalPort). AreInQuestionOf s.net (outcome_of s) c.args.tree found c.new.result.items)
    (sym (port_is_named s c.known.ensures c.args.name.now None (sym c.port_named.ensures ∙ ap option_copied c.in-None.is))) c.new.ensures.items

pub returns-in-Some : goal.returns-in-Some
returns-in-Some c =
    let s = c.args.plan.now in
    subst (λ (found : Option LogicalPort). IfOk c.settings_of.result (λ v. AreInQuestionOf s.net (outcome_of s) c.args.tree found v.items))
    (sym (port_is_named s c.known.ensures c.args.name.now (Some c.in-Some.port.now) (sym c.port_named.ensures ∙ ap option_copied c.in-Some.is))) c.settings_of.ensures
