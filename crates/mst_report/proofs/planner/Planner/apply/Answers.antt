use Rattle.std.proofs.Common.{◌≡◌, false, sym, ap, subst, ◌∙◌}
use Rattle.mst_lang.specs.declared.line.Edit.{Edit}
use Rattle.mst_net.specs.tables.After.{effect}
use Rattle.mst_net.specs.tables.Tables.{Net}
use Rattle.mst_plan_text.specs.forest.Msti.{has_msti}
use Rattle.mst_report.proofs.Staying.{kept_so, same_then, effect_made}
use Rattle.mst_report.proofs.planner.Planner.apply.Goals as goal

pub invariant_of-self : goal.invariant_of-self
invariant_of-self c =
    let was = c.self.inside in (
      kept_so was.network c.prepare.new.self c.prepare.ensures.same was.kept c.self.invariant.0,
      c.self.invariant.1,
    )

pub ahead-requires-clause-kept : goal.ahead-requires-clause-kept
ahead-requires-clause-kept c =
    let was = c.self.inside in
    kept_so was.network c.prepare.new.self c.prepare.ensures.same was.kept c.self.invariant.0

pub invariant_of-self-in-Err : goal.invariant_of-self-in-Err
invariant_of-self-in-Err c =
    let was = c.self.inside in (
      kept_so was.network c.abandon.new.self (same_then was.network c.prepare.new.self c.abandon.new.self c.prepare.ensures.same c.abandon.ensures.same) was.kept c.self.invariant.0,
      c.self.invariant.1,
    )

pub returns-in-Ok-clause-unused : goal.returns-in-Ok-clause-unused
returns-in-Ok-clause-unused c tree none =
    let now = c.prepare.new.self.net in
    let made = effect_made c.in_ok-ready.ready now c.commit.new.self.net c.commit.ensures.net in
    let ahead = ap (λ (edit : Edit). effect edit now) (sym c.in_ok-ready.ensures.ready.0) ∙ made in
    c.in-Ok.ensures.unused tree (λ name. subst (λ (net : Net). has_msti net tree name ≡ false) (sym ahead) (none name))
