use Rattle.std.proofs.Common.{Vec, Global, ◌≡◌, ℕ, Bool, List, length, map, ap, subst, ◌∙◌, arith}
use Rattle.std.proofs.lemmas.Result.{IfOk-weaker}
use Rattle.mst_judged.specs.reasons.sweep.Cuts.{names_of}
use Rattle.mst_island_judges.specs.Compared.{HaveParts}
use Rattle.mst_judged.specs.Islands.{AreOfClasses}
use Rattle.mst_judged.specs.reasons.Reasons.{Parts, together_reason}
use Rattle.mst_island_judges.proofs.BesideParts.{beside_moved}
use Rattle.mst_judged.proofs.VidReasons.{numbered, vid_reasons}
use Rattle.mst_island_judges.proofs.together.reasons_of.Goals as goal

abbrev Kept : Type 0
Kept = Vec (Vec (List ℕ) Global) Global

pub classes_asked-requires : goal.classes_asked-requires
classes_asked-requires c =
    let prior = c.args.compared.now.prior.now in
    numbered prior.old.now.view prior.classes.now c.requires.beside.old_classes c.as_slice-numbers.result.now c.len-count.result c.as_slice-numbers.ensures.value (omega arith)

pub bodies-requires-clause-flags : goal.bodies-requires-clause-flags
bodies-requires-clause-flags c =
    let flags : length c.as_slice.result.now ≡ length c.in_ok-flags.flags.items = ap length c.as_slice.ensures.value in
    omega (arith, c.in_ok-flags.ensures.as_long, c.len-count.ensures)

pub vid_reasons-requires : goal.vid_reasons-requires
vid_reasons-requires c =
    let prior = c.args.compared.now.prior.now in
    let flags : length c.as_slice.result.now ≡ length c.in_ok-flags.flags.items = ap length c.as_slice.ensures.value in
    numbered prior.old.now.view prior.classes.now c.requires.beside.old_classes c.as_slice-numbers.result.now (length c.as_slice-2.result.now) c.as_slice-numbers.ensures.value
    (c.as_slice-2.ensures.len ∙ c.in_ok-bodies.ensures.as_long ∙ omega (arith, flags, c.in_ok-flags.ensures.as_long, c.len-count.ensures))

pub returns : goal.returns
returns c = IfOk-weaker c.vid_reasons.result _ _
    (λ reasons told.
    let compared = c.args.compared.now in
    let s = compared.judged.now.plan.now in
    let prior = compared.prior.now in
    let classes = prior.classes.now in
    let k = c.requires.beside.old_classes in
    let flags : List Bool = c.in_ok-flags.flags.items in
    let bodies : List Kept = c.in_ok-bodies.bodies.items in
    let R : ℕ → Parts → Type 0 = HaveParts compared in
    let of : AreOfClasses R classes.firsts.items flags (map names_of bodies) = subst (λ fs. AreOfClasses R classes.firsts.items fs (map names_of bodies)) c.as_slice.ensures.value c.in_ok-bodies.ensures.parts in
    vid_reasons prior.old.now.view classes k R
    (λ i j li lj same parts h. beside_moved s c.known.ensures prior.old.now compared.judged.now.leaving.now compared.judged.now.lost.now compared.names.now classes k c.requires.beside.new_classes c.requires.same i j li lj same parts h) together_reason c.args.vids.now flags bodies
    c.as_slice-2.result.now c.as_slice-numbers.result.now reasons.items c.as_slice-numbers.ensures.value c.as_slice-2.ensures.value of c.in_ok-flags.ensures.asked told) c.vid_reasons.ensures
