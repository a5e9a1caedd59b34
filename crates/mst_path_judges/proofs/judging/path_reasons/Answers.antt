use Rattle.std.proofs.Common.{◌≡◌, ◌+◌, ℕ, Bool, List, Option, None, length, map, ap, subst, ◌∙◌, arith}
use Rattle.std.proofs.lemmas.Result.{IfOk-weaker}
use Rattle.mst_roles.specs.forest.Settled.{outcome_of}
use Rattle.mst_judged.specs.Valued.{AreValuesOf}
use Rattle.mst_judged.specs.reasons.Stretches.{Stretch}
use Rattle.mst_judged.proofs.VidParts.{one_alike}
use Rattle.mst_judged.proofs.VidReasons.{numbered, value_reasons}
use Rattle.mst_path_judges.specs.Asked.{HasTold, tells, told_of}
use Rattle.mst_path_judges.specs.declared.stretch.Stretch as kept
use Rattle.mst_path_judges.proofs.Moved.{told_moved}
use Rattle.mst_path_judges.proofs.judging.path_reasons.Goals as goal

pub classes_asked-requires : goal.classes_asked-requires
classes_asked-requires c =
    let s = c.args.judged.now.plan.now in
    let classes = c.args.judged.now.before.now.classes in
    numbered s.view classes c.requires.classes c.as_slice-numbers.result.now c.len-count.result c.as_slice-numbers.ensures.value (omega arith)

pub values-requires-clause-classes : goal.values-requires-clause-classes
values-requires-clause-classes c = c.requires.classes

pub values-requires-clause-flags : goal.values-requires-clause-flags
values-requires-clause-flags c =
    let flags : length c.as_slice.result.now ≡ length c.in_ok-flags.flags.items = ap length c.as_slice.ensures.value in
    omega (arith, c.in_ok-flags.ensures.as_long, c.len-count.ensures)

pub vid_reasons-requires : goal.vid_reasons-requires
vid_reasons-requires c =
    let s = c.args.judged.now.plan.now in
    let classes = c.args.judged.now.before.now.classes in
    let flags : length c.as_slice.result.now ≡ length c.in_ok-flags.flags.items = ap length c.as_slice.ensures.value in
    numbered s.view classes c.requires.classes c.as_slice-numbers.result.now (length c.as_slice-2.result.now) c.as_slice-numbers.ensures.value
    (c.as_slice-2.ensures.len ∙ c.in_ok-values.ensures.as_long ∙ omega (arith, flags, c.in_ok-flags.ensures.as_long, c.len-count.ensures))

pub returns : goal.returns
returns c = IfOk-weaker c.vid_reasons.result _ _
    (λ reasons said.
    let s = c.args.judged.now.plan.now in
    let o = outcome_of s in
    let is = c.known.ensures in
    let classes = c.args.judged.now.before.now.classes in
    let k = c.requires.classes in
    let asked = c.args.asked.now in
    let flags : List Bool = c.in_ok-flags.flags.items in
    let values : List (Option kept.Stretch) = c.in_ok-values.values.items in
    let R : ℕ → Option Stretch → Type 0 = HasTold s.net o asked in
    let of : AreValuesOf None R classes.firsts.items flags (map told_of values) =
    subst (λ fs. AreValuesOf None R classes.firsts.items fs (map told_of values)) c.as_slice.ensures.value c.in_ok-values.ensures.told in
    value_reasons s.view classes k None R (λ i j li lj same stretch h. told_moved s is classes k (i + 1) (j + 1) (one_alike s.view classes k i j li lj same) asked stretch h) (tells asked) c.args.vids.now flags
    (map told_of values) (map told_of c.as_slice-2.result.now) c.as_slice-numbers.result.now
    reasons.items c.as_slice-numbers.ensures.value (ap (map told_of) c.as_slice-2.ensures.value) of c.in_ok-flags.ensures.asked said) c.vid_reasons.ensures
