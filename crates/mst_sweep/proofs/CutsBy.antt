-- The VIDs that are cut, by any relation of VIDs and their parts: their rows are one list where the parts are, and there is one.
use Rattle.std.proofs.Common.{◌≡◌, ℕ, Bool, true, List, [], ◌∷◌, ◌++◌, refl, sym, ap, ◌∙◌}
use Rattle.std.specs.Cmp.{IsEquivalence}
use Rattle.std.specs.List.{Contains, filter, flat_map}
use Rattle.mst_ids.specs.Vids.{is_vid}
use Rattle.mst_graph.specs.Groups.{AreGroups}
use Rattle.mst_graph.proofs.Alike.{alike_groups}
use Rattle.mst_graph.proofs.Members.{here, there, in_whole}
use Rattle.mst_vlan.proofs.forest_lemmas.Entries.{all_weaker}
use Rattle.mst_vlan.proofs.forest_lemmas.Lists.{all_there}
use Rattle.mst_vlan.proofs.forest_lemmas.Looking.{filter_alike}
use Rattle.mst_vlan.specs.classes.AllVids.{all_vids}
use Rattle.mst_vlan.proofs.classes_lemmas.VidPlaces.{vids_once, is_vid_there, OneGrouping}
use Rattle.mst_graph.specs.Lists.{has_any}
use Rattle.mst_rows.specs.Rows.{Row}
use Rattle.mst_sweep.specs.declared.cuts.CutBy.{CutBy}
use Rattle.mst_sweep.specs.Cuts.{group_row, group_rows, AreCutsBy}
use Rattle.mst_sweep.proofs.SameParts.{same_parts, parts_decide, parts_equivalence}

-- by a relation that follows
pub cuts_too : (R S : ℕ → List (List (List ℕ)) → Type 0) → ((vid : ℕ) → is_vid vid ≡ true → (parts : List (List (List ℕ))) → R vid parts → S vid parts) → (by : CutBy) (vids : List ℕ) (rows : List Row) → AreCutsBy R by vids rows → AreCutsBy S by vids rows
cuts_too R S follows by vids rows x = record {
  parts = x.parts;
  are_parts = λ vid v. follows vid v (x.parts vid) (x.are_parts vid v);
  groups = x.groups;
  are_groups = x.are_groups;
  cut = x.cut;
  are = x.are;
}

-- ---- one
each_row : {A B : Type 0} (f g : A → List B) (xs : List A) → ((x : A) → Contains xs x → f x ≡ g x) → flat_map f xs ≡ flat_map g xs
each_row f g [] h = refl
each_row f g (x ∷ xs) h = let first = h x (here x xs) in let others = each_row f g xs (λ y c. h y (there x y xs c)) in λ i. first i ++ others i

module _ (R : ℕ → List (List (List ℕ)) → Type 0) (single : (vid : ℕ) (parts other : List (List (List ℕ))) → R vid parts → R vid other → parts ≡ other) (grouping : OneGrouping) (by : CutBy) (us vs : List ℕ) (rows other : List Row) (x : AreCutsBy R by us rows) (y : AreCutsBy R by vs other) where
  abbrev same : ℕ → ℕ → Bool
  same u v = same_parts (x.parts u) (x.parts v)

  parts_same : (vid : ℕ) → Contains all_vids vid → x.parts vid ≡ y.parts vid
  parts_same vid h = let v = is_vid_there vid h in single vid (x.parts vid) (y.parts vid) (x.are_parts vid v) (y.are_parts vid v)

  first : AreGroups (λ u v. same u v ≡ true) all_vids x.groups
  first =
      alike_groups (λ u v. x.parts u ≡ x.parts v) (λ u v. same u v ≡ true) all_vids x.groups
      (λ u v _ _. ((parts_decide (x.parts u) (x.parts v)).1, (parts_decide (x.parts u) (x.parts v)).0)) x.are_groups

  second : AreGroups (λ u v. same u v ≡ true) all_vids y.groups
  second =
      alike_groups (λ u v. y.parts u ≡ y.parts v) (λ u v. same u v ≡ true) all_vids y.groups
      (λ u v h k. (
        λ e. (parts_decide (x.parts u) (x.parts v)).1 (parts_same u h ∙ e ∙ sym (parts_same v k)),
        λ e. sym (parts_same u h) ∙ (parts_decide (x.parts u) (x.parts v)).0 e ∙ parts_same v k,
      )) y.are_groups

  group_same : (group : List ℕ) → Contains x.groups group → group_rows by x.parts group ≡ group_rows by y.parts group
  group_same [] h = refl
  group_same (vid ∷ vids) h = ap (group_row by (vid ∷ vids)) (parts_same vid (in_whole (x.are_groups.in_order (vid ∷ vids) h) vid (here vid vids)))

  pub one_list : rows ≡ other
  one_list =
      x.are ∙ each_row (group_rows by x.parts) (group_rows by y.parts) x.groups group_same ∙ ap (flat_map (group_rows by y.parts)) (grouping same all_vids x.groups y.groups vids_once first second) ∙ sym y.are

  pub one_cut : us ≡ vs
  one_cut =
      x.cut ∙ filter_alike (λ vid. has_any (x.parts vid)) (λ vid. has_any (y.parts vid)) all_vids
      (all_weaker (Contains all_vids) _ (λ vid h. ap has_any (parts_same vid h)) all_vids (all_there all_vids)) ∙ sym y.cut

-- ---- and some
module _ (R : ℕ → List (List (List ℕ)) → Type 0) (by : CutBy) (parts : ℕ → List (List (List ℕ))) (are : (vid : ℕ) → is_vid vid ≡ true → R vid (parts vid))
    (grouping : (same : ℕ → ℕ → Bool) (things : List ℕ) → IsEquivalence same → (groups : List (List ℕ)) × AreGroups (λ x y. same x y ≡ true) things groups) where
  abbrev test : ℕ → ℕ → Bool
  test x y = same_parts (parts x) (parts y)

  pub equivalence : IsEquivalence test
  equivalence = record {
    refl = λ x. parts_equivalence.refl (parts x);
    symm = λ x y. parts_equivalence.symm (parts x) (parts y);
    congr = λ x y z. parts_equivalence.congr (parts x) (parts y) (parts z);
  }

  abbrev pub groups : List (List ℕ)
  groups = (grouping test all_vids equivalence).0

  abbrev pub cut_vids : List ℕ
  cut_vids = filter (λ vid. has_any (parts vid)) all_vids

  abbrev pub cut_rows : List Row
  cut_rows = flat_map (group_rows by parts) groups

  pub some_cuts : AreCutsBy R by cut_vids cut_rows
  some_cuts = record {
    parts = parts;
    are_parts = are;
    groups = groups;
    are_groups = alike_groups (λ x y. test x y ≡ true) (λ x y. parts x ≡ parts y) all_vids groups (λ x y _ _. ((parts_decide (parts x) (parts y)).0, (parts_decide (parts x) (parts y)).1)) (grouping test all_vids equivalence).1;
    cut = refl;
    are = refl;
  }
