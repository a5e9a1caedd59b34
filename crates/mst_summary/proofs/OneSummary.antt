-- The rows of the summary of a network: there is one list of them, and one only.
use Rattle.std.proofs.Common.{◌≡◌, ℕ, ◌++◌, ◌∷◌, [], nat_eq, Bool, true, List, refl, sym, ap, ◌∙◌, eq-eqb}
use Rattle.std.specs.Cmp.{IsEquivalence, nat_eq_equiv}
use Rattle.std.specs.List.{Contains, flat_map}
use Rattle.std.proofs.lemmas.Bool.{eqb-true}
use Rattle.mst_graph.specs.Groups.{AreGroups}
use Rattle.mst_graph.specs.Islands.{Island}
use Rattle.mst_graph.proofs.Alike.{alike_groups}
use Rattle.mst_graph.proofs.Members.{here, there, in_whole}
use Rattle.mst_rows.specs.Rows.{Row}
use Rattle.mst_tables.specs.Tables.{Net}
use Rattle.mst_vlan.specs.forest.Outcome.{Outcome}
use Rattle.mst_vlan.specs.Reach.{AreIslandsOf}
use Rattle.mst_vlan.specs.classes.AllVids.{all_vids}
use Rattle.mst_vlan.proofs.classes_lemmas.VidPlaces.{vids_once, is_vid_there, OneGrouping}
use Rattle.mst_summary.specs.Carries.{all_carries, full_carries}
use Rattle.mst_summary.specs.Counts.{counts_of, counts_row}
use Rattle.mst_slips.specs.Slips.{slip_rows}
use Rattle.mst_summary.specs.SummaryText.{all_trees_rows, AreSummaryRows}
use Rattle.mst_summary.specs.Vlans.{with_bridge, HasIslands, islands_row, group_rows, AreVlanRows}

-- the rows of each group are the same
each_same : (f g : List ℕ → List Row) (groups : List (List ℕ)) → ((group : List ℕ) → Contains groups group → f group ≡ g group) → flat_map f groups ≡ flat_map g groups
each_same f g [] h = refl
each_same f g (group ∷ groups) h = let first = h group (here group groups) in let rest = each_same f g groups (λ other k. h other (there group other groups k)) in λ i. first i ++ rest i

module _ (net : Net) (o : Outcome) (one : (vid : ℕ) (islands others : List (Island (List ℕ) (List ℕ))) → AreIslandsOf net o vid islands → AreIslandsOf net o vid others → islands ≡ others) (grouping : OneGrouping) where
  one_count : (vid n m : ℕ) → HasIslands net o vid n → HasIslands net o vid m → n ≡ m
  one_count vid n m s t = s.2 ∙ ap with_bridge (one vid s.0 t.0 s.1 t.1) ∙ sym t.2

  module _ (rows other : List Row) (x : AreVlanRows net o rows) (y : AreVlanRows net o other) where
    abbrev same : ℕ → ℕ → Bool
    same u v = nat_eq (x.count u) (x.count v)

    count_same : (vid : ℕ) → Contains all_vids vid → x.count vid ≡ y.count vid
    count_same vid h = let v = is_vid_there vid h in one_count vid (x.count vid) (y.count vid) (x.counted vid v) (y.counted vid v)

    first : AreGroups (λ u v. same u v ≡ true) all_vids x.groups
    first =
        alike_groups (λ u v. x.count u ≡ x.count v) (λ u v. same u v ≡ true) all_vids x.groups
        (λ u v _ _. (λ e. eq-eqb (x.count u) (x.count v) e, λ e. eqb-true (x.count u) (x.count v) e)) x.are_groups

    second : AreGroups (λ u v. same u v ≡ true) all_vids y.groups
    second =
        alike_groups (λ u v. y.count u ≡ y.count v) (λ u v. same u v ≡ true) all_vids y.groups
        (λ u v h k. (
          λ e. eq-eqb (x.count u) (x.count v) (count_same u h ∙ e ∙ sym (count_same v k)),
          λ e. sym (count_same u h) ∙ eqb-true (x.count u) (x.count v) e ∙ count_same v k,
        )) y.are_groups

    group_same : (group : List ℕ) → Contains x.groups group → group_rows x.count group ≡ group_rows y.count group
    group_same [] h = refl
    group_same (vid ∷ vids) h = ap (λ n. islands_row (vid ∷ vids) n ∷ []) (count_same vid (in_whole (x.are_groups.in_order (vid ∷ vids) h) vid (here vid vids)))

    one_vlans : rows ≡ other
    one_vlans =
        x.is ∙ each_same (group_rows x.count) (group_rows y.count) x.groups group_same ∙ ap (flat_map (group_rows y.count)) (grouping same all_vids x.groups y.groups vids_once first second) ∙ sym y.is

  pub one_list : (rows other : List Row) → AreSummaryRows net o rows → AreSummaryRows net o other → rows ≡ other
  one_list rows other x y =
      x.is ∙ ap (λ (vlans : List Row). ((((counts_row (counts_of net) ∷ all_trees_rows net o) ++ vlans) ++ all_carries net o) ++ full_carries net o) ++ slip_rows net) (one_vlans x.vlans y.vlans x.are_vlans y.are_vlans) ∙ sym y.is

-- and there is one
module _ (net : Net) (o : Outcome) (some : (vid : ℕ) → (islands : List (Island (List ℕ) (List ℕ))) × AreIslandsOf net o vid islands)
    (grouping : (same : ℕ → ℕ → Bool) (things : List ℕ) → IsEquivalence same → (groups : List (List ℕ)) × AreGroups (λ x y. same x y ≡ true) things groups) where
  abbrev count : ℕ → ℕ
  count vid = with_bridge (some vid).0

  abbrev test : ℕ → ℕ → Bool
  test x y = nat_eq (count x) (count y)

  equivalence : IsEquivalence test
  equivalence = record {
    refl = λ x. nat_eq_equiv.refl (count x);
    symm = λ x y. nat_eq_equiv.symm (count x) (count y);
    congr = λ x y z. nat_eq_equiv.congr (count x) (count y) (count z);
  }

  has_vlans : (rows : List Row) × AreVlanRows net o rows
  has_vlans =
      let groups = grouping test all_vids equivalence in (
        flat_map (group_rows count) groups.0,
        record {
          count = count;
          counted = λ vid _. ((some vid).0, (some vid).1, refl);
          groups = groups.0;
          are_groups = alike_groups (λ x y. test x y ≡ true) (λ x y. count x ≡ count y) all_vids groups.0 (λ x y _ _. (λ e. eqb-true (count x) (count y) e, λ e. eq-eqb (count x) (count y) e)) groups.1;
          is = refl;
        },
      )

  pub has_rows : (rows : List Row) × AreSummaryRows net o rows
  has_rows =
      let vlans = has_vlans in
      (((((counts_row (counts_of net) ∷ all_trees_rows net o) ++ vlans.0) ++ all_carries net o) ++ full_carries net o) ++ slip_rows net, record { vlans = vlans.0; are_vlans = vlans.1; is = refl })
