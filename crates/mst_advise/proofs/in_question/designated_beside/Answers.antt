use Rattle.std.proofs.Common.{sym, ap, ◌∙◌}
use Rattle.std.specs.Option.{option_and_then}
use Rattle.mst_roles.specs.forest.Forest.{designated_in}
use Rattle.mst_roles.specs.forest.Settled.{name_of_port}
use Rattle.mst_advise.proofs.Beside.{beside_is}
use Rattle.mst_advise.proofs.in_question.designated_beside.Goals as goal

pub returns-in-None : goal.returns-in-None
returns-in-None c =
    let s = c.args.plan.now in
    let p = c.args.port.now in
    let number = c.designated.ensures ∙ (λ i. designated_in (c.forest.ensures i) c.args.tree p.lan_number) in
    ap (option_and_then (name_of_port s.view)) (sym c.in-None.is ∙ number) ∙ sym (beside_is s c.known.ensures c.args.tree p c.requires c.if-not-port.false)

pub returns-in-Some : goal.returns-in-Some
returns-in-Some c =
    let s = c.args.plan.now in
    let p = c.args.port.now in
    let number = c.designated.ensures ∙ (λ i. designated_in (c.forest.ensures i) c.args.tree p.lan_number) in
    c.name_of.ensures ∙ ap (option_and_then (name_of_port s.view)) (sym c.in-Some.is ∙ number) ∙ sym (beside_is s c.known.ensures c.args.tree p c.requires c.if-not-port.false)
