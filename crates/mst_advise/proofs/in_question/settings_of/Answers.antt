use Rattle.std.proofs.Common.{◌≡◌, ℕ, ◌==◌, ◌||◌, true, Option, sym, subst, ◌∙◌}
use Rattle.std.specs.Prelude.{IfOk}
use Rattle.mst_view.specs.Viewed.{named_port}
use Rattle.mst_roles.specs.declared.kind.Role.{Role}
use Rattle.mst_roles.specs.forest.Msti.{has_msti}
use Rattle.mst_roles.specs.forest.Settled.{outcome_of}
use Rattle.mst_advise.specs.InQuestion.{AreInQuestion, AreInQuestionBy}
use Rattle.mst_advise.proofs.PortsNamed.{contested_had}
use Rattle.mst_advise.proofs.in_question.settings_of.Goals as goal

pub settings_by-requires-clause-tree : goal.settings_by-requires-clause-tree
settings_by-requires-clause-tree c =
    let s = c.args.plan.now in
    let p = named_port c.args.port.now in
    subst (λ (t : ℕ). (t == 0 || has_msti s.net t p.name.bridge) ≡ true) (sym c.contested.ensures) (contested_had s.net (outcome_of s) c.args.tree p c.in-Some.field-0 (sym c.role_of.ensures ∙ c.in-Some.is))

pub returns-in-None : goal.returns-in-None
returns-in-None c =
    let s = c.args.plan.now in
    subst (λ (r : Option Role). AreInQuestionBy s.net (outcome_of s) c.args.tree (named_port c.args.port.now) r c.new.result.items) (sym c.in-None.is ∙ c.role_of.ensures) c.new.ensures.items

pub returns-in-Some : goal.returns-in-Some
returns-in-Some c =
    let s = c.args.plan.now in
    let o = outcome_of s in
    let p = named_port c.args.port.now in
    subst (λ (r : Option Role). IfOk c.settings_by.result (λ v. AreInQuestionBy s.net o c.args.tree p r v.items)) (sym c.in-Some.is ∙ c.role_of.ensures)
    (subst (λ (t : ℕ). IfOk c.settings_by.result (λ v. AreInQuestion s.net o t p v.items)) c.contested.ensures c.settings_by.ensures)
