use Rattle.std.proofs.Common.{[], sym, subst}
use Rattle.std.specs.Prelude.{◌↔◌, IfOk, IsTrue}
use Rattle.mst_roles.specs.forest.Settled.{outcome_of}
use Rattle.mst_verify.specs.tree_judges.judged.reasons.Holds.{Holds}
use Rattle.mst_verify.specs.tree_judges.judged.reasons.Named.{nothing_before}
use Rattle.mst_advise.specs.Goals.{expectation_of}
use Rattle.mst_advise.specs.declared.goal.Goal.{Goal}
use Rattle.mst_advise.proofs.holding.holds.Goals as goal

pub returns-in-Root : goal.returns-in-Root
returns-in-Root c =
    let s = c.args.plan.now in
    subst (λ (g : Goal). IfOk c.is_root.result (λ holds. IsTrue holds ↔ Holds s.net (outcome_of s) s.net [] nothing_before (expectation_of g))) (sym c.in-Root.is) c.is_root.ensures
