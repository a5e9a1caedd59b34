use Rattle.std.proofs.Common.{sym, subst}
use Rattle.std.proofs.lemmas.Result.{IfOk-weaker}
use Rattle.mst_policy.specs.declared.expectation.Expectation.{Expectation}
use Rattle.mst_roles.specs.forest.Settled.{outcome_of}
use Rattle.mst_island_judges.specs.judged.reasons.Over.{HasItsLan}
use Rattle.mst_island_judges.specs.judged.reasons.Reasons.{AreReasons}
use Rattle.mst_verify.proofs.why.reasons.Goals as goal

pub returns-in-Root : goal.returns-in-Root
returns-in-Root c = IfOk-weaker c.root_reasons.result _ _
    (λ reasons told before prior kept had.
    let s = c.args.judged.now.plan.now in
    subst (λ (e : Expectation). AreReasons s.net (outcome_of s) before c.args.judged.now.lost.now prior e reasons.items) (sym c.in-Root.is) told) c.root_reasons.ensures

pub returns-in-Region : goal.returns-in-Region
returns-in-Region c = IfOk-weaker c.region_reasons.result _ _
    (λ reasons told before prior kept had.
    let s = c.args.judged.now.plan.now in
    subst (λ (e : Expectation). AreReasons s.net (outcome_of s) before c.args.judged.now.lost.now prior e reasons.items) (sym c.in-Region.is) told) c.region_reasons.ensures

pub returns-in-Role : goal.returns-in-Role
returns-in-Role c = IfOk-weaker c.role_reasons.result _ _
    (λ reasons told before prior kept had.
    let s = c.args.judged.now.plan.now in
    subst (λ (e : Expectation). AreReasons s.net (outcome_of s) before c.args.judged.now.lost.now prior e reasons.items) (sym c.in-Role.is) (told before kept)) c.role_reasons.ensures

pub returns-in-Reach : goal.returns-in-Reach
returns-in-Reach c = IfOk-weaker c.reach_reasons.result _ _
    (λ reasons told before prior kept had.
    let s = c.args.judged.now.plan.now in
    subst (λ (e : Expectation). AreReasons s.net (outcome_of s) before c.args.judged.now.lost.now prior e reasons.items) (sym c.in-Reach.is) told) c.reach_reasons.ensures

pub returns-in-Apart : goal.returns-in-Apart
returns-in-Apart c = IfOk-weaker c.apart_reasons.result _ _
    (λ reasons told before prior kept had.
    let s = c.args.judged.now.plan.now in
    subst (λ (e : Expectation). AreReasons s.net (outcome_of s) before c.args.judged.now.lost.now prior e reasons.items) (sym c.in-Apart.is) told) c.apart_reasons.ensures

pub returns-in-Leaves : goal.returns-in-Leaves
returns-in-Leaves c = IfOk-weaker c.leaves_reasons.result _ _
    (λ reasons told before prior kept had.
    let s = c.args.judged.now.plan.now in
    subst (λ (e : Expectation). AreReasons s.net (outcome_of s) before c.args.judged.now.lost.now prior e reasons.items) (sym c.in-Leaves.is) told) c.leaves_reasons.ensures

pub returns-in-Together : goal.returns-in-Together
returns-in-Together c = IfOk-weaker c.together_reasons.result _ _
    (λ reasons told before prior kept had.
    let s = c.args.judged.now.plan.now in
    subst (λ (e : Expectation). AreReasons s.net (outcome_of s) before c.args.judged.now.lost.now prior e reasons.items) (sym c.in-Together.is) (told prior had)) c.together_reasons.ensures

pub returns-in-Leaf : goal.returns-in-Leaf
returns-in-Leaf c = IfOk-weaker c.leaf_reasons.result _ _
    (λ reasons told before prior kept had.
    let s = c.args.judged.now.plan.now in
    subst (λ (e : Expectation). AreReasons s.net (outcome_of s) before c.args.judged.now.lost.now prior e reasons.items) (sym c.in-Leaf.is) told) c.leaf_reasons.ensures

pub returns-in-Depth : goal.returns-in-Depth
returns-in-Depth c = IfOk-weaker c.depth_reasons.result _ _
    (λ reasons told before prior kept had.
    let s = c.args.judged.now.plan.now in
    subst (λ (e : Expectation). AreReasons s.net (outcome_of s) before c.args.judged.now.lost.now prior e reasons.items) (sym c.in-Depth.is) told) c.depth_reasons.ensures

pub returns-in-Hops : goal.returns-in-Hops
returns-in-Hops c = IfOk-weaker c.hops_reasons.result _ _
    (λ reasons told before prior kept had.
    let s = c.args.judged.now.plan.now in
    subst (λ (e : Expectation). AreReasons s.net (outcome_of s) before c.args.judged.now.lost.now prior e reasons.items) (sym c.in-Hops.is) told) c.hops_reasons.ensures

pub returns-in-Via : goal.returns-in-Via
returns-in-Via c = IfOk-weaker c.via_reasons.result _ _
    (λ reasons told before prior kept had.
    let s = c.args.judged.now.plan.now in
    subst (λ (e : Expectation). AreReasons s.net (outcome_of s) before c.args.judged.now.lost.now prior e reasons.items) (sym c.in-Via.is) told) c.via_reasons.ensures

pub carries_reasons-requires-clause-lan : goal.carries_reasons-requires-clause-lan
carries_reasons-requires-clause-lan c = subst (HasItsLan c.args.judged.now.plan.now.net) c.in-Carries.is c.requires.lan

pub returns-in-Carries : goal.returns-in-Carries
returns-in-Carries c = IfOk-weaker c.carries_reasons.result _ _
    (λ reasons told before prior kept had.
    let s = c.args.judged.now.plan.now in
    subst (λ (e : Expectation). AreReasons s.net (outcome_of s) before c.args.judged.now.lost.now prior e reasons.items) (sym c.in-Carries.is) told) c.carries_reasons.ensures

pub avoids_reasons-requires-clause-lan : goal.avoids_reasons-requires-clause-lan
avoids_reasons-requires-clause-lan c = subst (HasItsLan c.args.judged.now.plan.now.net) c.in-Avoids.is c.requires.lan

pub returns-in-Avoids : goal.returns-in-Avoids
returns-in-Avoids c = IfOk-weaker c.avoids_reasons.result _ _
    (λ reasons told before prior kept had.
    let s = c.args.judged.now.plan.now in
    subst (λ (e : Expectation). AreReasons s.net (outcome_of s) before c.args.judged.now.lost.now prior e reasons.items) (sym c.in-Avoids.is) told) c.avoids_reasons.ensures

pub returns-in-Fits : goal.returns-in-Fits
returns-in-Fits c = IfOk-weaker c.fits_reasons.result _ _
    (λ reasons told before prior kept had.
    let s = c.args.judged.now.plan.now in
    subst (λ (e : Expectation). AreReasons s.net (outcome_of s) before c.args.judged.now.lost.now prior e reasons.items) (sym c.in-Fits.is) told) c.fits_reasons.ensures
