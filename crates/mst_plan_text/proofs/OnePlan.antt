-- The rows of a plan: there are some, and one list only.
use Rattle.std.proofs.Common.{◌≡◌, ◌↔◌, ℕ, zero, suc, ◌+◌, ◌<◌, ◌++◌, Bool, true, List, length, map, get_or, refl, sym, ap, subst, ◌∙◌, arith}
use Rattle.std.specs.Cmp.{IsEquivalence}
use Rattle.std.specs.List.{flat_map}
use Rattle.mst_text.specs.vlan.classes.AllVids.{all_vids}
use Rattle.mst_graph.specs.Groups.{AreGroups}
use Rattle.mst_graph.proofs.Alike.{alike_groups}
use Rattle.mst_tables.specs.Tables.{Net}
use Rattle.mst_vlan.specs.forest.Outcome.{Outcome}
use Rattle.mst_text.specs.vlan.Reach.{AreIslandsOf}
use Rattle.mst_text.specs.VlanText.{ports_of_vid}
use Rattle.mst_rows.specs.Rows.{Row}
use Rattle.mst_plan_text.specs.Bodies.{pair_of, pairs_of}
use Rattle.mst_plan_text.specs.PlanText.{group_rows, trees_rows, Islands, AreIslandsOfEach, HaveOneBody, AreVidsRows, ArePlanRows}
use Rattle.mst_text.proofs.vlan_lemmas.classes_lemmas.VidPlaces.{vids_once, OneGrouping}
use Rattle.mst_plan_text.proofs.Pairs.{same_pairs, pairs_decide, pairs_equivalence, ports_from_pairs}
use Rattle.mst_plan_text.proofs.PortLinks.{one_body}

module _ (net : Net) (o : Outcome) (one : (vid : ℕ) (islands others : Islands) → AreIslandsOf net o vid islands → AreIslandsOf net o vid others → islands ≡ others) where
  abbrev same : ℕ → ℕ → Bool
  same x y = same_pairs (pairs_of net o x) (pairs_of net o y)

  -- two VIDs have one body just where their active ports are the same
  told : (islands : ℕ → Islands) → AreIslandsOfEach net o islands → (x y : ℕ) → HaveOneBody net o islands x y ↔ (same x y ≡ true)
  told islands are x y = (
    λ h. (pairs_decide (pairs_of net o x) (pairs_of net o y)).1 (ap (map pair_of) h.0),
    λ e. one_body net o one islands are x y (ports_from_pairs (ports_of_vid net o x) (ports_of_vid net o y) ((pairs_decide (pairs_of net o x) (pairs_of net o y)).0 e)),
  )

  told_back : (islands : ℕ → Islands) → AreIslandsOfEach net o islands → (x y : ℕ) → (same x y ≡ true) ↔ HaveOneBody net o islands x y
  told_back islands are x y = let t = told islands are x y in (t.1, t.0)

  -- ---- there is one only
  module _ (grouping : OneGrouping) where
    one_vids : (rows other : List Row) → AreVidsRows net o rows → AreVidsRows net o other → rows ≡ other
    one_vids rows other a b =
        let islands : a.islands ≡ b.islands = λ i vid. one vid (a.islands vid) (b.islands vid) (a.are_islands vid) (b.are_islands vid) i in
        let first = alike_groups (HaveOneBody net o a.islands) (λ x y. same x y ≡ true) all_vids a.groups (λ x y _ _. told a.islands a.are_islands x y) a.are_groups in
        let second = alike_groups (HaveOneBody net o b.islands) (λ x y. same x y ≡ true) all_vids b.groups (λ x y _ _. told b.islands b.are_islands x y) b.are_groups in
        let groups : a.groups ≡ b.groups = grouping same all_vids a.groups b.groups vids_once first second in
        a.is ∙ (λ i. flat_map (group_rows net o (islands i)) (groups i)) ∙ sym b.is

    pub one_plan : (rows other : List Row) → ArePlanRows net o rows → ArePlanRows net o other → rows ≡ other
    one_plan rows other a b = a.2 ∙ ap (λ t. trees_rows net o ++ t) (one_vids a.0 b.0 a.1 b.1) ∙ sym b.2

  -- ---- and there is one
  module _ (some : (vid : ℕ) → (islands : Islands) × AreIslandsOf net o vid islands)
      (grouping : (same : ℕ → ℕ → Bool) (things : List ℕ) → IsEquivalence same → (groups : List (List ℕ)) × AreGroups (λ x y. same x y ≡ true) things groups) where
    abbrev islands_of : ℕ → Islands
    islands_of vid = (some vid).0

    are_islands_of : AreIslandsOfEach net o islands_of
    are_islands_of vid = (some vid).1

    has_vids : (rows : List Row) × AreVidsRows net o rows
    has_vids =
        let groups = grouping same all_vids (pairs_equivalence (pairs_of net o)) in (
          flat_map (group_rows net o islands_of) groups.0,
          record {
            islands = islands_of;
            are_islands = are_islands_of;
            groups = groups.0;
            are_groups = alike_groups (λ x y. same x y ≡ true) (HaveOneBody net o islands_of) all_vids groups.0 (λ x y _ _. told_back islands_of are_islands_of x y) groups.1;
            is = refl;
          },
        )

    pub has_plan : (rows : List Row) × ArePlanRows net o rows
    has_plan = let vids = has_vids in (trees_rows net o ++ vids.0, (vids.0, vids.1, refl))
