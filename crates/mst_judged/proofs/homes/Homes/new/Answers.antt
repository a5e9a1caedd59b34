use Rattle.std.proofs.Common.{◌<◌, sym, subst, arith}
use Rattle.std.specs.List.{All}
use Rattle.mst_judged.specs.Islands.{AreMade}
use Rattle.mst_judged.proofs.StillMade.{none_still}
use Rattle.mst_judged.proofs.VidReasons.{firsts_below, numbered}
use Rattle.mst_judged.proofs.homes.Homes.new.Goals as goal

pub classes_asked-requires : goal.classes_asked-requires
classes_asked-requires c =
    let classes = c.args.before.now.classes in
    numbered c.args.plan.now.view classes c.requires c.as_slice.result.now c.len.result c.as_slice.ensures.value (omega (arith, c.len.ensures))

pub made_of-requires-clause-vids : goal.made_of-requires-clause-vids
made_of-requires-clause-vids c =
    subst (All (λ place. place < 4094)) (sym c.as_slice-places.ensures.value) (firsts_below c.args.plan.now.view c.args.before.now.classes c.requires)

pub returns-clause-made : goal.returns-clause-made
returns-clause-made c = subst (λ firsts. AreMade c.args.plan.now firsts c.in_ok-made.made.items) c.as_slice-places.ensures.value c.in_ok-made.ensures

pub returns-clause-kept : goal.returns-clause-kept
returns-clause-kept c = record {
  classes = c.requires;
  made = subst (λ firsts. AreMade c.args.plan.now firsts c.in_ok-made.made.items) c.as_slice-places.ensures.value c.in_ok-made.ensures;
  still = none_still c.args.plan.now c.args.before.now (record { made = c.in_ok-made.made; differ = c.new-differ.result }) c.new-differ.ensures.items;
}
