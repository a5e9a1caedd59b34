use Rattle.std.proofs.Common.{◌≡◌, ℕ, ◌++◌, List, length, map, refl, sym, ap, subst, ◌∙◌}
use Rattle.std.specs.List.{flat_map}
use Rattle.std.proofs.lemmas.Result.{on_ok_weaker}
use Rattle.mst_rows.specs.Rows.{Row}
use Rattle.mst_vlan.specs.forest.Settled.{outcome_of}
use Rattle.mst_vlan.specs.classes.AllVids.{NumberEach}
use Rattle.mst_vlan.proofs.classes_lemmas.VidPlaces.{vids_long}
use Rattle.mst_vlan.proofs.classes_lemmas.VidPlaces.{numbers_below, each_below}
use Rattle.mst_summary.specs.Kept.{count_at}
use Rattle.mst_summary.specs.Vlans.{HasIslands, group_rows}
use Rattle.mst_summary.proofs.VidClasses.{AtPlaces, things_have, islands_moved, groups_counted}
use Rattle.mst_summary.proofs.islands.put_vlans.Goals as goal

pub groups_by_body-requires-clause-as_long : goal.groups_by_body-requires-clause-as_long
groups_by_body-requires-clause-as_long g c =
    ap length c.as_slice-4.ensures.value ∙ c.requires.classes.classes.as_long ∙ c.requires.classes.tell.as_long ∙ sym (ap length (c.as_slice-3.ensures.value ∙ c.in_ok-vids.ensures) ∙ vids_long)

pub groups_by_body-requires-clause-below : goal.groups_by_body-requires-clause-below
groups_by_body-requires-clause-below g c =
    let k = c.requires.classes in
    each_below k.numbers c.args.classes.now.numbers.items c.args.classes.now.firsts.items _ k.classes (c.in_ok-counts.ensures.as_long ∙ ap length c.as_slice.ensures.value) c.as_slice-4.result.now c.as_slice-4.ensures.value

pub put_groups-requires : goal.put_groups-requires
put_groups-requires g c =
    let k = c.requires.classes in
    let firsts : List ℕ = c.args.classes.now.firsts.items in
    let long : length c.as_slice-7.result.now ≡ length firsts =
    ap length (c.as_slice-7.ensures.value ∙ c.in_ok-kept.ensures.items) ∙ c.as_slice-2.ensures.len ∙ c.in_ok-counts.ensures.as_long ∙ ap length c.as_slice.ensures.value in
    subst (λ ns. NumberEach ns (length c.as_slice-7.result.now)) (sym c.as_slice-6.ensures.value)
    (numbers_below k.numbers c.args.classes.now.numbers.items firsts (length c.as_slice-7.result.now) k.tell.as_long k.classes long)

pub returns : goal.returns
returns g c first rows grew =
    let s = c.args.plan.now in
    let k = c.requires.classes in
    let cs = c.args.classes.now in
    let classes : List ℕ = cs.numbers.items in
    let firsts : List ℕ = cs.firsts.items in
    let counts : List ℕ = c.in_ok-counts.counts.items in
    let groups : List (List ℕ) = map (λ group. group.items) c.in_ok-groups.groups.items in
    let kept : c.as_slice-7.result.now ≡ counts = c.as_slice-7.ensures.value ∙ c.in_ok-kept.ensures.items ∙ c.as_slice-2.ensures.value in
    let long : length counts ≡ length firsts = ap length (sym c.as_slice-2.ensures.value) ∙ c.as_slice-2.ensures.len ∙ c.in_ok-counts.ensures.as_long ∙ ap length c.as_slice.ensures.value in
    let each : NumberEach classes (length counts) = numbers_below k.numbers classes firsts (length counts) k.tell.as_long k.classes long in
    let R : ℕ → ℕ → Type 0 = HasIslands s.net (outcome_of s) in
    let at : AtPlaces R firsts counts = subst (λ places. AtPlaces R places counts) c.as_slice.ensures.value c.in_ok-counts.ensures.counts in
    let same : flat_map (group_rows (count_at c.as_slice-6.result.now c.as_slice-7.result.now)) (map (λ group. group.items) c.as_slice-5.result.now) ≡ flat_map (group_rows (count_at classes counts)) groups =
    λ j. flat_map (group_rows (count_at (c.as_slice-6.ensures.value j) (kept j))) (map (λ group. group.items) (c.as_slice-5.ensures.value j)) in
    let own : List Row = flat_map (group_rows (count_at classes counts)) groups in
    on_ok_weaker c.put_groups.result
    (λ last. (
      own,
      record {
        count = count_at classes counts;
        counted = things_have R 0 s.view cs k (islands_moved s c.known.ensures cs k) counts at;
        groups = groups;
        are_groups = groups_counted classes counts each c.as_slice-4.result.now c.as_slice-3.result.now c.as_slice-4.ensures.value (c.as_slice-3.ensures.value ∙ c.in_ok-vids.ensures) groups c.in_ok-groups.ensures;
        is = refl;
      },
      subst (λ (all : List Row). g.R.Rows.grew first c.put_groups.new.out (rows ++ all)) same last,
    ))
    (c.put_groups.ensures first rows grew)
