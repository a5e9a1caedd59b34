-- The rows of what a change does: there is one list of them, and one only.
use Rattle.std.proofs.Common.{◌≡◌, ℕ, ◌++◌, ◌∷◌, [], Bool, true, List, length, refl, sym, ap, ◌∙◌}
use Rattle.std.specs.Cmp.{IsEquivalence}
use Rattle.std.specs.List.{Contains, flat_map, count_by}
use Rattle.std.proofs.lemmas.List.Sums.{length-filter}
use Rattle.mst_graph.specs.Groups.{AreGroups}
use Rattle.mst_graph.specs.Islands.{Island}
use Rattle.mst_graph.proofs.Alike.{alike_groups}
use Rattle.mst_graph.proofs.Members.{here, in_whole}
use Rattle.mst_tables.specs.Tables.{Net}
use Rattle.mst_vlan.specs.forest.Outcome.{Outcome}
use Rattle.mst_vlan.proofs.forest_lemmas.Entries.{all_weaker}
use Rattle.mst_vlan.proofs.forest_lemmas.Lists.{all_there}
use Rattle.mst_vlan.proofs.forest_lemmas.Looking.{filter_alike}
use Rattle.mst_vlan.specs.Reach.{AreIslandsOf}
use Rattle.mst_vlan.specs.classes.AllVids.{all_vids}
use Rattle.mst_vlan.proofs.classes_lemmas.VidPlaces.{vids_once, is_vid_there, OneGrouping}
use Rattle.mst_rows.specs.Rows.{Row}
use Rattle.mst_diff.specs.declared.diff.Differing.{Differing}
use Rattle.mst_diff.specs.Regions.{region_changes}
use Rattle.mst_diff.specs.Roots.{root_changes}
use Rattle.mst_changes.specs.PortChanges.{counted}
use Rattle.mst_diff.specs.Ports.{port_rows}
use Rattle.mst_diff.specs.Reach.{island_bridges, Sides, sides_of, differ, AreSides, reach_unless, group_rows, AreReachRows}
use Rattle.mst_diff.specs.DiffText.{diff_row, AreDiffRowsOf}
use Rattle.mst_facts.proofs.Lists.{flat_map-same}
use Rattle.mst_diff.proofs.SameSides.{same_sides, sides_decide, sides_equivalence}
use Rattle.mst_vlan.proofs.OneList.{OneList}

each_rows : (f g : List ℕ → List Row) (xs : List (List ℕ)) → ((x : List ℕ) → Contains xs x → f x ≡ g x) → flat_map f xs ≡ flat_map g xs
each_rows f g xs h = flat_map-same f g xs (all_weaker (Contains xs) (λ x. f x ≡ g x) h xs (all_there xs))

pub each_count : (f g : ℕ → Bool) (xs : List ℕ) → ((x : ℕ) → Contains xs x → f x ≡ g x) → count_by f xs ≡ count_by g xs
each_count f g xs h = sym (length-filter f xs) ∙ ap length (filter_alike f g xs (all_weaker (Contains xs) (λ x. f x ≡ g x) h xs (all_there xs))) ∙ length-filter g xs

module _ (a b : Net) (o p : Outcome) (one : OneList) (grouping : OneGrouping) where
  one_sides : (vid : ℕ) (sides others : Sides) → AreSides a o b p vid sides → AreSides a o b p vid others → sides ≡ others
  one_sides vid sides others s t =
      let olds = one a o vid s.0 t.0 s.2 t.2 in
      let news = one b p vid s.1 t.1 s.3 t.3 in
      s.4 ∙ (λ i. sides_of (island_bridges (olds i)) (island_bridges (news i))) ∙ sym t.4

  module _ (rows others : List Row) (c d : ℕ) (x : AreReachRows a o b p rows c) (y : AreReachRows a o b p others d) where
    abbrev same : ℕ → ℕ → Bool
    same u v = same_sides (x.sides u) (x.sides v)

    sides_same : (vid : ℕ) → Contains all_vids vid → x.sides vid ≡ y.sides vid
    sides_same vid h = let v = is_vid_there vid h in one_sides vid (x.sides vid) (y.sides vid) (x.are_sides vid v) (y.are_sides vid v)

    first : AreGroups (λ u v. same u v ≡ true) all_vids x.groups
    first =
        alike_groups (λ u v. x.sides u ≡ x.sides v) (λ u v. same u v ≡ true) all_vids x.groups
        (λ u v _ _. ((sides_decide (x.sides u) (x.sides v)).1, (sides_decide (x.sides u) (x.sides v)).0)) x.are_groups

    second : AreGroups (λ u v. same u v ≡ true) all_vids y.groups
    second =
        alike_groups (λ u v. y.sides u ≡ y.sides v) (λ u v. same u v ≡ true) all_vids y.groups
        (λ u v h k. (
          λ e. (sides_decide (x.sides u) (x.sides v)).1 (sides_same u h ∙ e ∙ sym (sides_same v k)),
          λ e. sym (sides_same u h) ∙ (sides_decide (x.sides u) (x.sides v)).0 e ∙ sides_same v k,
        )) y.are_groups

    group_same : (group : List ℕ) → Contains x.groups group → group_rows x.sides group ≡ group_rows y.sides group
    group_same [] h = refl
    group_same (vid ∷ vids) h = ap (reach_unless (vid ∷ vids)) (sides_same vid (in_whole (x.are_groups.in_order (vid ∷ vids) h) vid (here vid vids)))

    one_reach : rows ≡ others
    one_reach =
        x.is ∙ each_rows (group_rows x.sides) (group_rows y.sides) x.groups group_same ∙ ap (flat_map (group_rows y.sides)) (grouping same all_vids x.groups y.groups vids_once first second) ∙ sym y.is

    one_count : c ≡ d
    one_count = x.counted ∙ each_count (λ vid. differ (x.sides vid)) (λ vid. differ (y.sides vid)) all_vids (λ vid h. ap differ (sides_same vid h)) ∙ sym y.counted

  module _ (c d : Differing) (rows other : List Row) (x : AreDiffRowsOf a o b p c rows) (y : AreDiffRowsOf a o b p d other) where
    pub one_counts : c ≡ d
    one_counts = λ i. record {
      regions = (x.regions ∙ sym y.regions) i;
      roots = (x.roots ∙ sym y.roots) i;
      ports = (x.ports ∙ sym y.ports) i;
      vlans = one_count x.reach y.reach c.vlans d.vlans x.is_reach y.is_reach i;
    }

    pub one_diff : rows ≡ other
    one_diff =
        x.is
        ∙ (λ i. region_changes a b ++ root_changes a o b p ++ port_rows a o b p ++ one_reach x.reach y.reach c.vlans d.vlans x.is_reach y.is_reach i ++ diff_row (one_counts i) ∷ [])
        ∙ sym y.is

-- and there is one
module _ (a b : Net) (o p : Outcome) (olds : (vid : ℕ) → (islands : List (Island (List ℕ) (List ℕ))) × AreIslandsOf a o vid islands) (news : (vid : ℕ) → (islands : List (Island (List ℕ) (List ℕ))) × AreIslandsOf b p vid islands)
    (grouping : (same : ℕ → ℕ → Bool) (things : List ℕ) → IsEquivalence same → (groups : List (List ℕ)) × AreGroups (λ x y. same x y ≡ true) things groups) where
  abbrev sides : ℕ → Sides
  sides vid = sides_of (island_bridges (olds vid).0) (island_bridges (news vid).0)

  abbrev test : ℕ → ℕ → Bool
  test x y = same_sides (sides x) (sides y)

  equivalence : IsEquivalence test
  equivalence = sides_equivalence sides

  abbrev groups : List (List ℕ)
  groups = (grouping test all_vids equivalence).0

  abbrev counts : Differing
  counts = record {
    regions = length (region_changes a b);
    roots = length (root_changes a o b p);
    ports = counted (port_rows a o b p);
    vlans = count_by (λ vid. differ (sides vid)) all_vids;
  }

  pub has_diff : (c : Differing) × (rows : List Row) × AreDiffRowsOf a o b p c rows
  has_diff = (
    counts,
    region_changes a b ++ root_changes a o b p ++ port_rows a o b p ++ flat_map (group_rows sides) groups ++ diff_row counts ∷ [],
    record {
      reach = flat_map (group_rows sides) groups;
      is_reach = record {
        sides = sides;
        are_sides = λ vid _. ((olds vid).0, (news vid).0, (olds vid).1, (news vid).1, refl);
        groups = groups;
        are_groups = alike_groups (λ x y. test x y ≡ true) (λ x y. sides x ≡ sides y) all_vids groups (λ x y _ _. ((sides_decide (sides x) (sides y)).0, (sides_decide (sides x) (sides y)).1)) (grouping test all_vids equivalence).1;
        is = refl;
        counted = refl;
      };
      regions = refl;
      roots = refl;
      ports = refl;
      is = refl;
    },
  )
