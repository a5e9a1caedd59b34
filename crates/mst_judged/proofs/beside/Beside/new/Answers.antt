use Rattle.std.proofs.Common.{◌≡◌, ◌<◌, length, sym, ap, subst, ◌∙◌}
use Rattle.std.specs.List.{All}
use Rattle.mst_reasons.specs.sweep.vlan.Carried.{AreFlags}
use Rattle.mst_reasons.specs.sweep.vlan.classes.Classes.{AreClasses, AreInSame}
use Rattle.mst_judged.specs.Islands.{AreMade}
use Rattle.mst_judged.proofs.ClassesOfBoth.{of_new, of_old}
use Rattle.mst_judged.proofs.StillMade.{all_alike}
use Rattle.mst_judged.proofs.VidReasons.{numbered}
use Rattle.mst_judged.proofs.beside.Beside.new.Goals as goal

pub classes_asked-requires : goal.classes_asked-requires
classes_asked-requires c =
    let classes = c.in_ok-classes.classes in
    numbered c.view-2.result.now classes (of_new c.view.result.now c.view-2.result.now classes c.in_ok-classes.ensures.classes) c.as_slice-numbers.result.now (length c.as_slice-places.result.now) c.as_slice-numbers.ensures.value (ap length c.as_slice-places.ensures.value)

pub differing-requires : goal.differing-requires
differing-requires c = subst (All (λ place. place < 4094)) (sym c.as_slice-places.ensures.value) c.in_ok-classes.ensures.vids

pub made_at-requires-clause-vids : goal.made_at-requires-clause-vids
made_at-requires-clause-vids c = subst (All (λ place. place < 4094)) (sym c.as_slice-places.ensures.value) c.in_ok-classes.ensures.vids

pub made_at-requires-2-clause-vids : goal.made_at-requires-2-clause-vids
made_at-requires-2-clause-vids c = subst (All (λ place. place < 4094)) (sym c.as_slice-places.ensures.value) c.in_ok-classes.ensures.vids

pub returns-clause-same : goal.returns-clause-same
returns-clause-same c = subst (λ sets. AreInSame sets c.in_ok-classes.classes) (c.as_slice.ensures.value ∙ c.in_ok-left.ensures) c.in_ok-classes.ensures.same

pub returns-clause-beside : goal.returns-clause-beside
returns-clause-beside c =
    let s = c.args.plan.now in
    let classes = c.in_ok-classes.classes in
    let old = c.args.old.now in
    let places : c.as_slice-places.result.now ≡ classes.firsts.items = c.as_slice-places.ensures.value in
    record {
      old_classes = subst (λ v. AreClasses v classes) c.view.ensures (of_old c.view.result.now c.view-2.result.now classes c.in_ok-classes.ensures.classes);
      new_classes = subst (λ v. AreClasses v classes) c.view-2.ensures (of_new c.view.result.now c.view-2.result.now classes c.in_ok-classes.ensures.classes);
      olds = λ t is of. subst (λ firsts. AreMade t firsts c.in_ok-olds.olds.items) places (c.in_ok-olds.ensures t is of);
      news = subst (λ firsts. AreMade s firsts c.in_ok-news.news.items) places (c.in_ok-news.ensures s c.known.ensures c.requires);
      alike = all_alike old c.args.new.now s c.requires classes.firsts.items c.in_ok-differ.differ.items (subst (λ firsts. AreFlags old c.args.new.now firsts c.in_ok-differ.differ.items) places c.in_ok-differ.ensures);
    }
