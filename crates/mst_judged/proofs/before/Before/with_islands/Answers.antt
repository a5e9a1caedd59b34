use Rattle.std.proofs.Common.{◌≡◌, ◌<◌, length, refl, sym, ap, subst}
use Rattle.std.specs.List.{All}
use Rattle.mst_judged.specs.Islands.{AreMade}
use Rattle.mst_judged.proofs.VidReasons.{firsts_below, numbered}
use Rattle.mst_judged.proofs.before.Before.with_islands.Goals as goal

pub classes_asked-requires : goal.classes_asked-requires
classes_asked-requires c =
    let classes = c.in_ok-before.before.classes in
    numbered c.args.plan.now.view classes c.in_ok-before.ensures.classes c.as_slice-numbers.result.now (length c.as_slice-places.result.now) c.as_slice-numbers.ensures.value (ap length c.as_slice-places.ensures.value)

pub made_at-requires-clause-vids : goal.made_at-requires-clause-vids
made_at-requires-clause-vids c =
    subst (All (λ place. place < 4094)) (sym c.as_slice-places.ensures.value) (firsts_below c.args.plan.now.view c.in_ok-before.before.classes c.in_ok-before.ensures.classes)

pub returns-clause-islands : goal.returns-clause-islands
returns-clause-islands c =
    let s = c.args.plan.now in
    let places : c.as_slice-places.result.now ≡ c.in_ok-before.before.classes.firsts.items = c.as_slice-places.ensures.value in
    record {
      network = s;
      settled = c.known.ensures;
      is_of = c.requires;
      have_numbers = refl;
      made = λ t is of. subst (λ firsts. AreMade t firsts c.in_ok-homes.homes.items) places (c.in_ok-homes.ensures t is of);
    }
