-- Reasons of VIDs by their values: there is one list of them where each VID has one value, and there is one.
use Rattle.std.proofs.Common.{◌≡◌, ◌↔◌, ℕ, Bool, true, false, true≢false, List, [], ◌∷◌, refl, sym, ap, ◌∙◌}
use Rattle.std.specs.Cmp.{IsEquivalence}
use Rattle.std.specs.List.{Contains, flat_map}
use Rattle.mst_ids.specs.Vids.{has}
use Rattle.mst_graph.specs.Groups.{AreGroups}
use Rattle.mst_graph.proofs.Alike.{alike_groups}
use Rattle.mst_graph.proofs.Exists.{has_groups}
use Rattle.mst_graph.proofs.Members.{here, in_whole}
use Rattle.mst_graph.proofs.Unique as unique
use Rattle.mst_reasons.specs.sweep.vlan.classes.AllVids.{all_vids}
use Rattle.mst_reasons.proofs.sweep_lemmas.vlan_lemmas.classes_lemmas.VidPlaces.{vids_once}
use Rattle.mst_reasons.proofs.sweep_lemmas.SameParts.{parts_decide, same_parts}
use Rattle.mst_reasons.specs.Named.{vids_in}
use Rattle.mst_reasons.specs.Reasons.{AreVidReasons, Parts, group_reasons}
use Rattle.mst_reasons.specs.declared.reason.Reason.{Reason}
use Rattle.mst_reasons.proofs.Things.{each_same, once_filtered}

-- by a relation that follows
pub so_of_vids : {B : Type 0} (R S : ℕ → B → Type 0) (tell : List ℕ → B → List Reason) (vids : List Bool) (reasons : List Reason) → ((vid : ℕ) → Contains (vids_in vids) vid → (value : B) → R vid value → S vid value)
    → AreVidReasons R tell vids reasons → AreVidReasons S tell vids reasons
so_of_vids R S tell vids reasons follows x = record {
  value = x.value;
  has = λ vid h. follows vid h (x.value vid) (x.has vid h);
  groups = x.groups;
  are_groups = x.are_groups;
  are = x.are;
}

-- ---- VIDs, by values of which each VID has one
module _ {B : Type 0} (Has : ℕ → B → Type 0) (single : (vid : ℕ) (value other : B) → Has vid value → Has vid other → value ≡ other) (tell : List ℕ → B → List Reason) (vids : List Bool) (reasons others : List Reason)
    (x : AreVidReasons Has tell vids reasons) (y : AreVidReasons Has tell vids others) where
  value_same : (vid : ℕ) → Contains (vids_in vids) vid → x.value vid ≡ y.value vid
  value_same vid h = single vid (x.value vid) (y.value vid) (x.has vid h) (y.has vid h)

  second : AreGroups (λ u v. x.value u ≡ x.value v) (vids_in vids) y.groups
  second =
      alike_groups (λ u v. y.value u ≡ y.value v) (λ u v. x.value u ≡ x.value v) (vids_in vids) y.groups
      (λ u v h k. (λ e. value_same u h ∙ e ∙ sym (value_same v k), λ e. sym (value_same u h) ∙ e ∙ value_same v k)) y.are_groups

  groups_same : x.groups ≡ y.groups
  groups_same = unique.one_list (λ u v. x.value u ≡ x.value v) (vids_in vids) (once_filtered (has vids) all_vids vids_once) x.groups y.groups x.are_groups second

  group_same : (group : List ℕ) → Contains x.groups group → group_reasons tell x.value group ≡ group_reasons tell y.value group
  group_same [] h = refl
  group_same (vid ∷ more) h = ap (tell (vid ∷ more)) (value_same vid (in_whole (x.are_groups.in_order (vid ∷ more) h) vid (here vid more)))

  pub one_of_vids : reasons ≡ others
  one_of_vids = x.are ∙ each_same (group_reasons tell x.value) (group_reasons tell y.value) x.groups group_same ∙ ap (flat_map (group_reasons tell y.value)) groups_same ∙ sym y.are

-- ---- groups, by a test of a relation
same_bool : (b c : Bool) → (b ≡ true → c ≡ true) → (c ≡ true → b ≡ true) → b ≡ c
same_bool true c f g = sym (f refl)
same_bool false true f g = absurd (true≢false (sym (g refl)))
same_bool false false f g = refl

module _ {A : Type 0} (R : A → A → Type 0) (same : A → A → Bool) (decides : (x y : A) → (same x y ≡ true) ↔ R x y) (itself : (x : A) → R x x) (turned : (x y : A) → R x y → R y x) (on : (x y z : A) → R x y → R y z → R x z) where
  equivalence : IsEquivalence same
  equivalence = record {
    refl = λ x. (decides x x).1 (itself x);
    symm = λ x y. same_bool (same x y) (same y x) (λ e. (decides y x).1 (turned x y ((decides x y).0 e))) (λ e. (decides x y).1 (turned y x ((decides y x).0 e)));
    congr = λ x y z e. let r = (decides x y).0 e in same_bool (same x z) (same y z) (λ k. (decides y z).1 (on y x z (turned x y r) ((decides x z).0 k))) (λ k. (decides x z).1 (on x y z r ((decides y z).0 k)));
  }

  pub groups_of : (things : List A) → (groups : List (List A)) × AreGroups R things groups
  groups_of things = let g = has_groups same equivalence things in (g.0, alike_groups (λ x y. same x y ≡ true) R things g.0 (λ x y _ _. decides x y) g.1)

-- ---- VIDs that have values, which a test tells apart
module _ {B : Type 0} (same : B → B → Bool) (decides : (a b : B) → (same a b ≡ true) ↔ (a ≡ b)) (Has : ℕ → B → Type 0) (tell : List ℕ → B → List Reason) (some : (vid : ℕ) → (value : B) × Has vid value) (vids : List Bool) where
  abbrev value : ℕ → B
  value vid = (some vid).0

  abbrev vid_groups : (groups : List (List ℕ)) × AreGroups (λ x y. value x ≡ value y) (vids_in vids) groups
  vid_groups = groups_of (λ x y. value x ≡ value y) (λ x y. same (value x) (value y)) (λ x y. decides (value x) (value y)) (λ x. refl) (λ x y e. sym e) (λ x y z e k. e ∙ k) (vids_in vids)

  pub some_of_vids : (reasons : List Reason) × AreVidReasons Has tell vids reasons
  some_of_vids = (
    flat_map (group_reasons tell value) vid_groups.0,
    record { value = value; has = λ vid _. (some vid).1; groups = vid_groups.0; are_groups = vid_groups.1; are = refl },
  )

-- and of parts
pub some_of_parts : (HasParts : ℕ → Parts → Type 0) (tell : List ℕ → Parts → List Reason) → ((vid : ℕ) → (parts : Parts) × HasParts vid parts) → (vids : List Bool) → (reasons : List Reason) × AreVidReasons HasParts tell vids reasons
some_of_parts HasParts tell some vids = some_of_vids same_parts (λ a b. ((parts_decide a b).0, (parts_decide a b).1)) HasParts tell some vids
