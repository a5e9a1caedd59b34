use Rattle.std.proofs.Common.{Vec, Global, ◌≡◌, ◌+◌, ℕ, Bool, List, length, map, ap, subst, ◌∙◌, arith}
use Rattle.std.specs.Option.{option_copied}
use Rattle.std.proofs.lemmas.Result.{IfOk-weaker}
use Rattle.mst_forest.specs.Settled.{outcome_of}
use Rattle.mst_judged.specs.reasons.sweep.Cuts.{names_of}
use Rattle.mst_judged.specs.Islands.{AreOfClasses}
use Rattle.mst_judged.specs.reasons.Named.{named}
use Rattle.mst_judged.specs.reasons.Reasons.{AreBoth, Parts}
use Rattle.mst_island_judges.specs.Grouping.{tells}
use Rattle.mst_island_judges.specs.Seen.{others_in}
use Rattle.mst_judged.proofs.VidParts.{both_moved, one_alike}
use Rattle.mst_judged.proofs.VidReasons.{numbered, vid_reasons}
use Rattle.mst_island_judges.proofs.apart.vids_joined.Goals as goal

abbrev Kept : Type 0
Kept = Vec (Vec (List ℕ) Global) Global

pub classes_asked-requires : goal.classes_asked-requires
classes_asked-requires c =
    let s = c.args.judged.now.plan.now in
    let classes = c.args.judged.now.before.now.classes in
    numbered s.view classes c.requires.classes c.as_slice-numbers.result.now c.len-count.result c.as_slice-numbers.ensures.value (omega arith)

pub bodies-requires-clause-flags : goal.bodies-requires-clause-flags
bodies-requires-clause-flags c =
    let flags : length c.as_slice.result.now ≡ length c.in_ok-flags.flags.items = ap length c.as_slice.ensures.value in
    omega (arith, c.in_ok-flags.ensures.as_long, c.len-count.ensures)

pub vid_reasons-requires : goal.vid_reasons-requires
vid_reasons-requires c =
    let s = c.args.judged.now.plan.now in
    let classes = c.args.judged.now.before.now.classes in
    let flags : length c.as_slice.result.now ≡ length c.in_ok-flags.flags.items = ap length c.as_slice.ensures.value in
    numbered s.view classes c.requires.classes c.as_slice-numbers.result.now (length c.as_slice-2.result.now) c.as_slice-numbers.ensures.value
    (c.as_slice-2.ensures.len ∙ c.in_ok-bodies.ensures.as_long ∙ omega (arith, flags, c.in_ok-flags.ensures.as_long, c.len-count.ensures))

pub returns : goal.returns
returns c = IfOk-weaker c.vid_reasons.result _ _
    (λ reasons told.
    let s = c.args.judged.now.plan.now in
    let o = outcome_of s in
    let is = c.known.ensures in
    let classes = c.args.judged.now.before.now.classes in
    let k = c.requires.classes in
    let lost = c.args.judged.now.lost.now in
    let flags : List Bool = c.in_ok-flags.flags.items in
    let bodies : List Kept = c.in_ok-bodies.bodies.items in
    let bridges : List (List ℕ) = named s.net lost c.args.names.now in
    let others : List (List ℕ) = others_in s.net lost c.args.names.now (option_copied c.args.others) in
    let R : ℕ → Parts → Type 0 = AreBoth s.net o bridges others in
    let of : AreOfClasses R classes.firsts.items flags (map names_of bodies) = subst (λ fs. AreOfClasses R classes.firsts.items fs (map names_of bodies)) c.as_slice.ensures.value c.in_ok-bodies.ensures.parts in
    vid_reasons s.view classes k R (λ i j li lj same parts h. both_moved s is classes k (i + 1) (j + 1) (one_alike s.view classes k i j li lj same) bridges others parts h) (tells c.args.telling) c.args.vids.now flags bodies c.as_slice-2.result.now
    c.as_slice-numbers.result.now reasons.items c.as_slice-numbers.ensures.value c.as_slice-2.ensures.value of c.in_ok-flags.ensures.asked told) c.vid_reasons.ensures
