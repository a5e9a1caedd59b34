use Rattle.std.proofs.Common.{Vec, Global, ◌≡◌, ℕ, ◌++◌, List, length, map, refl, sym, ap, subst, ◌∙◌}
use Rattle.std.specs.List.{flat_map, count_by}
use Rattle.std.proofs.lemmas.List.{length-map}
use Rattle.std.proofs.lemmas.List.Folds.{flat_map-map}
use Rattle.mst_vlan.specs.classes.AllVids.{NumberEach}
use Rattle.mst_vlan.specs.classes.AllVids.{all_vids}
use Rattle.mst_vlan.proofs.classes_lemmas.VidPlaces.{vids_long}
use Rattle.mst_vlan.proofs.classes_lemmas.VidPlaces.{numbers_below, each_below}
use Rattle.mst_rows.specs.Rows.{Row}
use Rattle.mst_vlan.specs.classes.Classes.{HasOnly}
use Rattle.mst_diff.specs.Reach.{Sides, differ, group_rows}
use Rattle.mst_diff.specs.Seen.{AreSidesOf, seen_sides, sides_at}
use Rattle.mst_diff.specs.declared.sides.Sides.{Sides as KeptSides}
use Rattle.mst_diff.proofs.Reached.{sides_moved}
use Rattle.mst_diff.proofs.SameSides.{same_kept, kept_decide}
use Rattle.mst_diff.proofs.SidesGrouped.{AtPlaces, have_sides, groups_given}
use Rattle.mst_diff.proofs.reach.put_reach.Goals as goal

abbrev items : Vec ℕ Global → List ℕ
items group = group.items

pub groups_by_body-requires-clause-as_long : goal.groups_by_body-requires-clause-as_long
groups_by_body-requires-clause-as_long g c =
    ap length c.as_slice-4.ensures.value ∙ c.in_ok-classes.ensures.classes.are.as_long ∙ c.in_ok-classes.ensures.classes.tell.as_long ∙ sym (ap length (c.as_slice-3.ensures.value ∙ c.in_ok-vids.ensures) ∙ vids_long)

pub groups_by_body-requires-clause-below : goal.groups_by_body-requires-clause-below
groups_by_body-requires-clause-below g c =
    each_below c.in_ok-classes.ensures.classes.numbers c.in_ok-classes.classes.numbers.items c.in_ok-classes.classes.firsts.items _ c.in_ok-classes.ensures.classes.are (c.in_ok-sides.ensures.as_long ∙ ap length c.as_slice.ensures.value)
    c.as_slice-4.result.now c.as_slice-4.ensures.value

pub put_groups-requires : goal.put_groups-requires
put_groups-requires g c =
    let long : length c.as_slice-7.result.now ≡ length c.in_ok-classes.classes.firsts.items =
    ap length c.as_slice-7.ensures.value ∙ sym (length-map c.in_ok-kept.kept.items seen_sides) ∙ ap length c.in_ok-kept.ensures ∙ length-map c.as_slice-2.result.now seen_sides
    ∙ c.as_slice-2.ensures.len ∙ c.in_ok-sides.ensures.as_long ∙ ap length c.as_slice.ensures.value in
    subst (λ ns. NumberEach ns (length c.as_slice-7.result.now)) (sym c.as_slice-6.ensures.value)
    (numbers_below c.in_ok-classes.ensures.classes.numbers c.in_ok-classes.classes.numbers.items c.in_ok-classes.classes.firsts.items (length c.as_slice-7.result.now) c.in_ok-classes.ensures.classes.tell.as_long c.in_ok-classes.ensures.classes.are long)

pub count-requires : goal.count-requires
count-requires g c =
    let long : length c.as_slice-10.result.now ≡ length c.in_ok-classes.classes.firsts.items =
    ap length c.as_slice-10.ensures.value ∙ sym (length-map c.in_ok-kept.kept.items seen_sides) ∙ ap length c.in_ok-kept.ensures ∙ length-map c.as_slice-2.result.now seen_sides
    ∙ c.as_slice-2.ensures.len ∙ c.in_ok-sides.ensures.as_long ∙ ap length c.as_slice.ensures.value in
    subst (λ ns. NumberEach ns (length c.as_slice-10.result.now)) (sym c.as_slice-9.ensures.value)
    (numbers_below c.in_ok-classes.ensures.classes.numbers c.in_ok-classes.classes.numbers.items c.in_ok-classes.classes.firsts.items (length c.as_slice-10.result.now) c.in_ok-classes.ensures.classes.tell.as_long c.in_ok-classes.ensures.classes.are long)

pub returns : goal.returns
returns g c first rows grew =
    let s = c.args.old.now in
    let t = c.args.new.now in
    let classes : List ℕ = c.in_ok-classes.classes.numbers.items in
    let firsts : List ℕ = c.in_ok-classes.classes.firsts.items in
    let are = c.in_ok-classes.ensures.classes in
    let made : List KeptSides = c.in_ok-sides.sides.items in
    let groups : List (List ℕ) = map items c.in_ok-groups.groups.items in
    let all : List Sides = map seen_sides made in
    let copied : map seen_sides c.in_ok-kept.kept.items ≡ all = c.in_ok-kept.ensures ∙ ap (map seen_sides) c.as_slice-2.ensures.value in
    let kept : map seen_sides c.as_slice-7.result.now ≡ all = ap (map seen_sides) c.as_slice-7.ensures.value ∙ copied in
    let counted : map seen_sides c.as_slice-10.result.now ≡ all = ap (map seen_sides) c.as_slice-10.ensures.value ∙ copied in
    let long : length made ≡ length firsts = ap length (sym c.as_slice-2.ensures.value) ∙ c.as_slice-2.ensures.len ∙ c.in_ok-sides.ensures.as_long ∙ ap length c.as_slice.ensures.value in
    let each : NumberEach classes (length made) = numbers_below are.numbers classes firsts (length made) are.tell.as_long are.are long in
    let R : ℕ → Sides → Type 0 = AreSidesOf s t in
    let at : AtPlaces R firsts all = subst (λ places. AtPlaces R places all) c.as_slice.ensures.value c.in_ok-sides.ensures.sides in
    let before : HasOnly s.view are.tables are.sets = subst (λ v. HasOnly v are.tables are.sets) c.view-before.ensures are.old in
    let after : HasOnly t.view are.tables are.sets = subst (λ v. HasOnly v are.tables are.sets) c.view-after.ensures are.new in
    let vids : c.as_slice-8.result.now ≡ all_vids = c.as_slice-8.ensures.value ∙ c.in_ok-vids.ensures in
    let sides : ℕ → Sides = sides_at classes all in (
      flat_map (group_rows sides) groups,
      record {
        sides = sides;
        are_sides = have_sides R are.tables are.sets (sides_moved s t c.known.ensures c.known-2.ensures are.tables are.sets before after) are.numbers classes firsts are.tell are.are all at;
        groups = groups;
        are_groups = groups_given seen_sides same_kept kept_decide classes made each c.as_slice-4.result.now c.as_slice-3.result.now c.as_slice-4.ensures.value (c.as_slice-3.ensures.value ∙ c.in_ok-vids.ensures) groups c.in_ok-groups.ensures;
        is = refl;
        counted = c.count.ensures ∙ (λ j. count_by (λ vid. differ (sides_at (c.as_slice-9.ensures.value j) (counted j) vid)) (vids j));
      },
      subst (λ (own : List Row). g.R.Rows.grew first c.put_groups.new.out (rows ++ own))
          ((λ j. flat_map (λ (group : Vec ℕ Global). group_rows (sides_at (c.as_slice-6.ensures.value j) (kept j)) group.items) (c.as_slice-5.ensures.value j)) ∙ sym (flat_map-map (group_rows sides) items c.in_ok-groups.groups.items))
          (c.in_ok-put_groups.ensures first rows grew),
    )
