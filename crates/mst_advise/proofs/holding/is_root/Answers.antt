use Rattle.std.proofs.Common.{◌≡◌, Bool, true, false, true≢false, not, List, [], None, refl, sym, ap, ◌∙◌}
use Rattle.mst_policy.specs.declared.expectation.Expectation.TheVariants as expect
use Rattle.mst_roles.specs.forest.Settled.{outcome_of}
use Rattle.mst_graph.specs.Lists.{has_any}
use Rattle.mst_verify.specs.tree_judges.judged.reasons.Named.{nothing_before}
use Rattle.mst_verify.specs.tree_judges.judged.reasons.declared.reason.Reason.{Reason}
use Rattle.mst_verify.proofs.tree_judges_lemmas.judged_lemmas.reasons_lemmas.Things.{empty_any, no_any}
use Rattle.mst_advise.proofs.holding.is_root.Goals as goal

not_true : (b : Bool) → not b ≡ true → b ≡ false
not_true true e = absurd (true≢false (sym e))
not_true false e = refl

pub returns : goal.returns
returns c =
    let s = c.args.plan.now in
    let is = c.known.ensures in
    let those : List Reason = c.in_ok-reasons.reasons.items in
    let told = c.told_where_broken.ensures s.net (outcome_of s) s.net [] nothing_before (expect.Root c.args.tree c.args.bridge.now None) those is.of.network is.is_outcome (c.in_ok-reasons.ensures s.net c.in_ok-before.ensures.ports) in
    let none = c.are_none.ensures ∙ ap (λ (rs : List Reason). not (has_any rs)) c.as_slice.ensures.value in
    (λ t. told.0 (no_any those (not_true (has_any those) (sym none ∙ t))), λ h. none ∙ ap not (empty_any those (told.1 h)))
