use Rattle.std.proofs.Common.{◌+◌, ℕ, get_or, None, refl, sym, subst, arith}
use Rattle.std.specs.Prelude.{take}
use Rattle.std.proofs.lemmas.Grind.{common_steps}
use Rattle.mst_reasons.proofs.summary_lemmas.VidClasses.{more_at, all_at}
use Rattle.mst_judged.specs.Islands.{AreMade}
use Rattle.mst_judged.proofs.HomesMade.{HasHomes}
use Rattle.mst_judged.proofs.homes.none_at.Goals as goal

pub loop-class-preserved : goal.loop-class-preserved
loop-class-preserved c = record {
  as_long = grind (arith, common_steps);
  made = λ s.
      let i : ℕ = c.loop-class.class in
      let places = c.args.places.now in
      let place : ℕ = get_or places i 0 in
      subst (AreMade s (take (i + 1) places)) (sym c.in_ok-push.ensures.items)
      (more_at (HasHomes s) places i place (place + 1) c.loop-class-test.true refl refl c.loop-class.made.items None (c.loop-class.invariant.made s) tt);
}

pub returns : goal.returns
returns c s = all_at (HasHomes s) c.args.places.now c.loop-class.class c.loop-class-test.false c.loop-class.made.items (c.loop-class.invariant.made s)
