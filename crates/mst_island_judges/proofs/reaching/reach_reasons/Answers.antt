use Rattle.std.proofs.Common.{Vec, Global, ◌≡◌, ◌+◌, ℕ, Bool, List, length, map, sym, ap, subst, ◌∙◌, arith}
use Rattle.std.proofs.lemmas.Result.{IfOk-weaker}
use Rattle.mst_view.specs.declared.in_view.BridgeInView.{BridgeInView}
use Rattle.mst_forest.specs.Settled.{outcome_of}
use Rattle.mst_judged.specs.reasons.sweep.Cuts.{names_of}
use Rattle.mst_judged.specs.Islands.{AreOfClasses, AreReachParts, HaveNumbers}
use Rattle.mst_judged.specs.reasons.Seen.{names_in}
use Rattle.mst_judged.specs.reasons.Named.{is_named, named}
use Rattle.mst_judged.specs.reasons.Reasons.{Parts, reach_reason}
use Rattle.mst_judged.proofs.NamedIn.{have_numbers, named_seen}
use Rattle.mst_judged.proofs.VidParts.{one_alike, reach_moved}
use Rattle.mst_judged.proofs.VidReasons.{numbered, vid_reasons}
use Rattle.mst_island_judges.proofs.reaching.reach_reasons.Goals as goal

abbrev Kept : Type 0
Kept = Vec (Vec (List ℕ) Global) Global

pub classes_asked-requires : goal.classes_asked-requires
classes_asked-requires c =
    let s = c.args.judged.now.plan.now in
    let classes = c.args.judged.now.before.now.classes in
    numbered s.view classes c.requires.classes c.as_slice-numbers.result.now c.len-count.result c.as_slice-numbers.ensures.value (omega arith)

pub bodies-requires-clause-bridges : goal.bodies-requires-clause-bridges
bodies-requires-clause-bridges c =
    let s = c.args.judged.now.plan.now in
    subst (HaveNumbers s.numbers) (sym {A = List BridgeInView} (c.as_slice.ensures.value ∙ c.in_ok-bridges.ensures))
    (have_numbers s.net s.numbers s.view c.known.ensures.of.view (λ b. is_named c.args.judged.now.lost.now c.args.names.now b.name))

pub bodies-requires-clause-flags : goal.bodies-requires-clause-flags
bodies-requires-clause-flags c =
    let flags : length c.as_slice-2.result.now ≡ length c.in_ok-flags.flags.items = ap length c.as_slice-2.ensures.value in
    omega (arith, c.in_ok-flags.ensures.as_long, c.len-count.ensures)

pub vid_reasons-requires : goal.vid_reasons-requires
vid_reasons-requires c =
    let s = c.args.judged.now.plan.now in
    let classes = c.args.judged.now.before.now.classes in
    let flags : length c.as_slice-2.result.now ≡ length c.in_ok-flags.flags.items = ap length c.as_slice-2.ensures.value in
    numbered s.view classes c.requires.classes c.as_slice-numbers.result.now (length c.as_slice-3.result.now) c.as_slice-numbers.ensures.value
    (c.as_slice-3.ensures.len ∙ c.in_ok-bodies.ensures.as_long ∙ omega (arith, flags, c.in_ok-flags.ensures.as_long, c.len-count.ensures))

pub returns : goal.returns
returns c = IfOk-weaker c.vid_reasons.result _ _
    (λ reasons told.
    let s = c.args.judged.now.plan.now in
    let o = outcome_of s in
    let is = c.known.ensures in
    let classes = c.args.judged.now.before.now.classes in
    let k = c.requires.classes in
    let lost = c.args.judged.now.lost.now in
    let names = c.args.names.now in
    let flags : List Bool = c.in_ok-flags.flags.items in
    let bodies : List Kept = c.in_ok-bodies.bodies.items in
    let bridges : List (List ℕ) = named s.net lost names in
    let bridges_are : names_in c.as_slice.result.now ≡ bridges = ap names_in (c.as_slice.ensures.value ∙ c.in_ok-bridges.ensures) ∙ named_seen s.net s.numbers s.view is.of.view lost names in
    let R : ℕ → Parts → Type 0 = AreReachParts s.net o bridges in
    let of : AreOfClasses R classes.firsts.items flags (map names_of bodies) =
    subst (λ fs. AreOfClasses R classes.firsts.items fs (map names_of bodies)) c.as_slice-2.ensures.value
    (subst (λ bs. AreOfClasses (AreReachParts s.net o bs) classes.firsts.items c.as_slice-2.result.now (map names_of bodies)) bridges_are c.in_ok-bodies.ensures.parts) in
    vid_reasons s.view classes k R (λ i j li lj same parts h. reach_moved s is classes k (i + 1) (j + 1) (one_alike s.view classes k i j li lj same) bridges parts h) reach_reason c.args.vids.now flags bodies c.as_slice-3.result.now
    c.as_slice-numbers.result.now reasons.items c.as_slice-numbers.ensures.value c.as_slice-3.ensures.value of c.in_ok-flags.ensures.asked told) c.vid_reasons.ensures
