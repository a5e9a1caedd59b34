use Rattle.std.proofs.Common.{◌≡◌, refl, take, ◌+◌, ◌<◌, ℕ, ◌++◌, ◌∷◌, [], false, get_or, length, map, sym, ap, subst, ◌∙◌, arith, rules}
use Rattle.std.proofs.lemmas.Grind.{common_steps}
use Rattle.std.proofs.lemmas.List.{get_or_default, map-append}
use Rattle.mst_diff.specs.Reach.{no_sides}
use Rattle.mst_diff.specs.Seen.{AreSidesOf, seen_sides}
use Rattle.mst_diff.proofs.SidesGrouped.{AtPlaces, sides_more, sides_all}
use Rattle.mst_diff.proofs.reach.sides_at.Goals as goal

pub sides_unless-requires : goal.sides_unless-requires
sides_unless-requires c = λ e.
    let told = c.in_ok-flags.ensures in
    let i : ℕ = c.loop-i.i in
    let below : i < length c.args.places.now = c.loop-i-test.true in
    let within : i < length c.in_ok-flags.flags.items = subst (λ n. i < n) (sym told.as_long) below in
    let vid : c.unwrap-vid.result ≡ get_or c.args.places.now i 0 + 1 = first_of (grind (arith, common_steps), search (rules, common_steps)) in
    let flag : get_or c.in_ok-flags.flags.items i false ≡ false = get_or_default c.in_ok-flags.flags.items i false c.index.result.now within ∙ sym c.index.ensures ∙ e in
    subst (λ vid. AreSidesOf c.args.both.now.old.now c.args.both.now.new.now vid no_sides) (sym vid) (told.none i below flag)

pub loop-i-preserved : goal.loop-i-preserved
loop-i-preserved c = record {
  as_long = grind (arith, common_steps);
  sides =
      let R = AreSidesOf c.args.both.now.old.now c.args.both.now.new.now in
      let i : ℕ = c.loop-i.i in
      let places = c.args.places.now in
      let place : ℕ = get_or places i 0 in
      let vid : c.unwrap-vid.result ≡ place + 1 = first_of (grind (arith, common_steps), search (rules, common_steps)) in
      let pushed : map seen_sides c.push.new.self.items ≡ map seen_sides c.loop-i.all.items ++ seen_sides c.in_ok-sides_unless.field-0 ∷ [] =
      ap (map seen_sides) c.in_ok-push.ensures.items ∙ map-append seen_sides c.loop-i.all.items (c.in_ok-sides_unless.field-0 ∷ []) in
      subst (AtPlaces R (take (i + 1) places)) (sym pushed)
      (sides_more R places i place c.unwrap-vid.result c.loop-i-test.true refl vid (map seen_sides c.loop-i.all.items) (seen_sides c.in_ok-sides_unless.field-0) c.loop-i.invariant.sides c.in_ok-sides_unless.ensures);
}

pub returns-clause-sides : goal.returns-clause-sides
returns-clause-sides c =
    sides_all (AreSidesOf c.args.both.now.old.now c.args.both.now.new.now) c.args.places.now c.loop-i.i c.loop-i-test.false (map seen_sides c.loop-i.all.items) c.loop-i.invariant.sides
