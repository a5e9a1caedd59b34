use Rattle.std.proofs.Common.{◌≡◌, ◌∙◌, ap, sym, subst, Some, IfOk, option_map, Bor}
use Rattle.mst_net.specs.tables.Tables.{Net}
use Rattle.mst_forest.specs.Settled.{outcome_of}
use Rattle.mst_policy.specs.declared.expectation.Expectation.{Expectation as ExpectationOf}
use Rattle.mst_verdict.specs.Verifying.{AreReasonsIf, expected_by}
use Rattle.mst_verify.specs.tree_judges.judged.Islands.{IsKeptOf}
use Rattle.mst_verify.specs.tree_judges.judged.reasons.Named.{Prior}
use Rattle.mst_verify.specs.tree_judges.judged.Seen.{IsBefore}
use Rattle.mst_verdict.proofs.judging.line_reasons.Goals as goal

pub returns-in-Some : goal.returns-in-Some
returns-in-Some c =
    let judged = c.args.judged.now in
    let is : Some c.in-Some.expectation.now ≡ expected_by c.args.judging.now c.args.line.now c.args.missing.now c.args.place.now =
    ap (option_map (λ (e : Bor ExpectationOf). e.now)) (sym c.in-Some.is) ∙ c.expected.ensures in
    subst
    (λ expected. IfOk c.reasons.result (λ reasons. (before : Net) (prior : Prior) → IsBefore before judged.before.now → IsKeptOf prior judged.prior judged.leaving.now
    → AreReasonsIf judged.plan.now.net (outcome_of judged.plan.now) before judged.lost.now prior expected reasons.items))
    is
    c.reasons.ensures
