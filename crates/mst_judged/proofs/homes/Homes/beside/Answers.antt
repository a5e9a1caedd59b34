use Rattle.std.proofs.Common.{◌≡◌, ◌<◌, length, sym, ap, subst}
use Rattle.std.specs.List.{All}
use Rattle.std.proofs.lemmas.Result.{IfOk-weaker}
use Rattle.mst_reasons.specs.sweep.vlan.Carried.{ViewWithTrees, AreFlags}
use Rattle.mst_judged.specs.Islands.{AreMade}
use Rattle.mst_judged.proofs.HomesMade.{is_of_plan, known_of}
use Rattle.mst_judged.proofs.StillMade.{all_alike, all_still, none_alike}
use Rattle.mst_judged.proofs.VidReasons.{firsts_below, numbered}
use Rattle.mst_judged.proofs.homes.Homes.beside.Goals as goal

pub classes_asked-requires : goal.classes_asked-requires
classes_asked-requires c =
    let classes = c.args.before.now.classes in
    numbered c.args.plan.now.view classes c.requires.classes c.as_slice-numbers.result.now (length c.as_slice-places.result.now) c.as_slice-numbers.ensures.value (ap length c.as_slice-places.ensures.value)

pub new-requires-2 : goal.new-requires-2
new-requires-2 c = known_of c.args.plan.now c.known.ensures c.view.result.now c.forest.result.now c.view.ensures c.forest.ensures

pub differing-requires : goal.differing-requires
differing-requires c = subst (All (λ place. place < 4094)) (sym c.as_slice-places.ensures.value) (firsts_below c.args.plan.now.view c.args.before.now.classes c.requires.classes)

pub returns-then-is_empty-clause-alike : goal.returns-then-is_empty-clause-alike
returns-then-is_empty-clause-alike c = IfOk-weaker c.new.result _ _ (λ homes none. none_alike c.args.old.now c.args.plan.now c.args.before.now.classes.firsts.items homes.differ.items none) c.new.ensures.none

pub returns-clause-alike : goal.returns-clause-alike
returns-clause-alike c =
    let s = c.args.plan.now in
    let new : ViewWithTrees = c.in_ok-carriage.carriage in
    let of = is_of_plan s c.known.ensures c.view.result.now c.forest.result.now c.view.ensures c.forest.ensures new c.in_ok-carriage.ensures in
    all_alike c.args.old.now new s of c.args.before.now.classes.firsts.items c.in_ok-differ.differ.items
    (subst (λ firsts. AreFlags c.args.old.now new firsts c.in_ok-differ.differ.items) c.as_slice-places.ensures.value c.in_ok-differ.ensures)

pub returns-clause-kept : goal.returns-clause-kept
returns-clause-kept c =
    let s = c.args.plan.now in
    let before = c.args.before.now in
    let new : ViewWithTrees = c.in_ok-carriage.carriage in
    let of = is_of_plan s c.known.ensures c.view.result.now c.forest.result.now c.view.ensures c.forest.ensures new c.in_ok-carriage.ensures in
    let places : c.as_slice-places.result.now ≡ before.classes.firsts.items = c.as_slice-places.ensures.value in
    record {
      classes = c.requires.classes;
      made = subst (λ firsts. AreMade s firsts c.in_ok-made.made.items) places (c.in_ok-made.ensures s c.known.ensures of);
      still = all_still c.args.old.now new before _ s c.known.ensures c.requires.islands of (subst (λ firsts. AreFlags c.args.old.now new firsts c.in_ok-differ.differ.items) places c.in_ok-differ.ensures);
    }

pub made_at-requires-clause-vids : goal.made_at-requires-clause-vids
made_at-requires-clause-vids c =
    subst (All (λ place. place < 4094)) (sym c.as_slice-places.ensures.value) (firsts_below c.args.plan.now.view c.args.before.now.classes c.requires.classes)
