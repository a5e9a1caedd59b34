use Rattle.std.proofs.Common.{subst}
use Rattle.std.specs.Prelude.{MatchOption, ⊤}
use Rattle.std.proofs.lemmas.Result.{IfOk-weaker}
use Rattle.mst_policy.specs.Leaving.{sets_of}
use Rattle.mst_judged.specs.reasons.sweep.vlan.classes.Classes.{AreInSame}
use Rattle.mst_judged.specs.Islands.{IsBeside, IsKeptOf}
use Rattle.mst_island_judges.proofs.BesideParts.{told_beside}
use Rattle.mst_island_judges.proofs.together.together_reasons.Goals as goal

pub reasons_of-requires-clause-beside : goal.reasons_of-requires-clause-beside
reasons_of-requires-clause-beside c = subst (λ o. MatchOption o ⊤ (IsBeside c.args.judged.now.plan.now)) c.in-Some.is c.requires.prior

pub reasons_of-requires-clause-same : goal.reasons_of-requires-clause-same
reasons_of-requires-clause-same c = subst (λ o. MatchOption o ⊤ (λ prior. AreInSame (sets_of c.args.judged.now.leaving.now) prior.classes.now)) c.in-Some.is c.requires.same

pub returns : goal.returns
returns c = IfOk-weaker c.reasons_of.result _ _
    (λ reasons told prior had.
    let judged = c.args.judged.now in
    told_beside judged.plan.now judged.leaving.now judged.lost.now c.args.names.now c.args.vids.now reasons.items c.in-Some.prior told prior (subst (λ kept. IsKeptOf prior kept judged.leaving.now) c.in-Some.is had)) c.reasons_of.ensures
