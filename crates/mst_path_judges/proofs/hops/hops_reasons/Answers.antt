use Rattle.std.proofs.Common.{◌≡◌, ℕ, List, ap, subst, ◌∙◌}
use Rattle.std.proofs.lemmas.Result.{IfOk-weaker}
use Rattle.mst_roles.specs.forest.Settled.{outcome_of}
use Rattle.mst_judged.specs.reasons.Named.{named}
use Rattle.mst_judged.specs.reasons.Reasons.{AreHopsReasons}
use Rattle.mst_judged.specs.reasons.Seen.{names_in}
use Rattle.mst_judged.proofs.NamedIn.{named_seen}
use Rattle.mst_path_judges.proofs.hops.hops_reasons.Goals as goal

pub returns : goal.returns
returns c = IfOk-weaker c.path_reasons.result _ _
    (λ reasons told.
    let s = c.args.judged.now.plan.now in
    let is = c.known.ensures in
    let lost = c.args.judged.now.lost.now in
    let names = c.args.names.now in
    let bridges : c.as_slice-bridges.result.now ≡ named s.net lost names =
    c.as_slice-bridges.ensures.value ∙ c.in_ok-concerned.ensures ∙ ap names_in (c.as_slice.ensures.value ∙ c.in_ok-seen.ensures) ∙ named_seen s.net s.numbers s.view is.of.view lost names in
    subst (λ (bs : List (List ℕ)). AreHopsReasons s.net (outcome_of s) c.args.vids.now c.args.most bs reasons.items) bridges told) c.path_reasons.ensures
