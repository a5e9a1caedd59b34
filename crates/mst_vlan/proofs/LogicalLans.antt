-- A logical LAN stands for itself, and is one of the view.
use Rattle.std.proofs.Common.{◌≡◌, ℕ, Bool, true, false, ◌&&◌, ◌||◌, List, filter, Option, Some, None, refl, sym, ap, subst, ◌∙◌}
use Rattle.std.specs.List.{Contains}
use Rattle.std.specs.Option.{option_map, option_map_or, unwrap_or}
use Rattle.std.specs.Cmp.{nat_eq_equiv}
use Rattle.std.specs.Cmp.Lexicographic.{nat_list_eq_equiv}
use Rattle.std.specs.FinMap as fin
use Rattle.std.proofs.lemmas.Bool.{and_parts, eqb-true}
use Rattle.mst_graph.proofs.Members.{in_map, in_filter}
use Rattle.mst_tables.specs.Tables.{Net}
use Rattle.mst_view.specs.Aggregation.{Side, sides, same_name, same_sides, lans_as_one}
use Rattle.mst_view.specs.View.{logical_lan, LogicalLan, as_lan, view_lans, is_up}
use Rattle.mst_lag.specs.Seen.{kept_class, class_eq}
use Rattle.mst_lag.specs.declared.classes.Class.{Class}
use Rattle.mst_view.proofs.Lists.{some_is, no_some, all_of, find_same, found_passes}
use Rattle.mst_view.proofs.Names.{same_names}
use Rattle.mst_lag.proofs.Sides.{lan_sides_in_order, same_class}
use Rattle.mst_roles.proofs.forest_lemmas.Looking.{IsFirst, first_found}
use Rattle.mst_vlan.specs.Reach.{lans_up}

-- equal classes are one
class_is : (a b : Class) → class_eq a b ≡ true → a ≡ b
class_is a b e =
    let sides = and_parts _ _ e in
    let first = and_parts _ _ sides.0 in
    let second = and_parts _ _ sides.1 in
    let bridges = same_names a.first.bridge b.first.bridge first.0 in
    let keys : a.first.key ≡ b.first.key = eqb-true a.first.key b.first.key first.1 in
    let others = same_names a.second.bridge b.second.bridge second.0 in
    let other_keys : a.second.key ≡ b.second.key = eqb-true a.second.key b.second.key second.1 in
    λ i. record { first = record { bridge = bridges i; key = keys i }; second = record { bridge = others i; key = other_keys i } }

own_class : (s : Side × Side) → class_eq (kept_class s) (kept_class s) ≡ true
own_class s = λ i. (nat_list_eq_equiv.refl s.0.bridge i && nat_eq_equiv.refl s.0.key i) && (nat_list_eq_equiv.refl s.1.bridge i && nat_eq_equiv.refl s.1.key i)

or_none : (x : Bool) → (x || false) ≡ x
or_none true = refl
or_none false = refl

module _ (net : Net) where
  -- the class of a LAN
  abbrev class_at : List ℕ → Option Class
  class_at lan = option_map kept_class (sides net lan)

  abbrev has_class : Class → List ℕ → Bool
  has_class k lan = option_map_or (class_eq k) (class_at lan) false

  -- the LANs that count as one with one of a class are those of the class
  of_class : (l : List ℕ) (a : Side × Side) → sides net l ≡ Some a → (m : List ℕ) → lans_as_one net l m ≡ has_class (kept_class a) m
  of_class l a is m =
      ap (λ o. same_name l m || option_map_or (λ s. option_map_or (same_sides s) (sides net m) false) o false) is
      ∙ go (same_name l m) refl (sides net m) refl
    where
      go : (b : Bool) → same_name l m ≡ b → (o : Option (Side × Side)) → sides net m ≡ o
          → (b || option_map_or (same_sides a) o false) ≡ option_map_or (class_eq (kept_class a)) (option_map kept_class o) false
      go false e None f = refl
      go false e (Some s) f = same_class a s (lan_sides_in_order net l a is) (lan_sides_in_order net m s f)
      go true e None f = absurd (no_some a (sym f ∙ ap (sides net) (sym (same_names l m e)) ∙ is))
      go true e (Some s) f = sym (ap (λ x. class_eq (kept_class a) (kept_class x)) (some_is s a (sym f ∙ ap (sides net) (sym (same_names l m e)) ∙ is)) ∙ own_class a)

  -- one of no class is alone
  alone : (l : List ℕ) → sides net l ≡ None → logical_lan net l ≡ l
  alone l is = sym (found_passes (λ m. l ≡ m) (lans_as_one net l) (λ m h. same_names l m (sym (test m) ∙ h)) (fin.keys net.lans) l refl)
    where
      test : (m : List ℕ) → lans_as_one net l m ≡ same_name l m
      test m = ap (λ o. same_name l m || option_map_or (λ s. option_map_or (same_sides s) (sides net m) false) o false) is ∙ or_none (same_name l m)

  -- what stands for a LAN of the network
  pub record IsLogical (lan : List ℕ) : Type 0 where
    pub there : Contains (fin.keys net.lans) lan
    pub own : logical_lan net lan ≡ lan

  first_of : (lan : List ℕ) → Contains (fin.keys net.lans) lan → IsFirst (lans_as_one net lan) (fin.keys net.lans)
  first_of lan there =
      first_found (lans_as_one net lan) (fin.keys net.lans) lan there
      (ap (λ b. b || option_map_or (λ a. option_map_or (same_sides a) (sides net lan) false) (sides net lan) false) (nat_list_eq_equiv.refl lan))

  pub is_logical : (lan : List ℕ) → Contains (fin.keys net.lans) lan → IsLogical (logical_lan net lan)
  is_logical lan there = go (sides net lan) refl
    where
      first : IsFirst (lans_as_one net lan) (fin.keys net.lans)
      first = first_of lan there

      stands : logical_lan net lan ≡ first.it
      stands = ap (λ o. unwrap_or o lan) first.found

      same : (a : Side × Side) → sides net lan ≡ Some a → (o : Option (Side × Side)) → sides net first.it ≡ o → option_map_or (class_eq (kept_class a)) (option_map kept_class o) false ≡ true
          → logical_lan net first.it ≡ first.it
      same a is None e h = absurd (no_some (true) (ap (λ b. if_none b) (sym h)))
        where
          if_none : Bool → Option Bool
          if_none true = None
          if_none false = Some true
      same a is (Some b) e h =
          let one : kept_class b ≡ kept_class a = sym (class_is (kept_class a) (kept_class b) h) in
          ap (λ o. unwrap_or o first.it)
          (find_same (lans_as_one net first.it) (lans_as_one net lan) (fin.keys net.lans)
          (all_of _ (λ m. of_class first.it b e m ∙ ap (λ k. has_class k m) one ∙ sym (of_class lan a is m)) (fin.keys net.lans))
          ∙ first.found)

      go : (o : Option (Side × Side)) → sides net lan ≡ o → IsLogical (logical_lan net lan)
      go None e = let itself = alone lan e in subst IsLogical (sym itself) (record { there = there; own = itself })
      go (Some a) e =
          subst IsLogical (sym stands) (record { there = first.there; own = same a e (sides net first.it) refl (sym (of_class lan a e first.it) ∙ first.passes) })

  -- and is among the logical LANs that are up, where it is
  pub up_there : (lan : List ℕ) → IsLogical lan → is_up net lan ≡ true → Contains (lans_up net) lan
  up_there lan logical up =
      in_map (λ (l : LogicalLan). l.name) (filter (λ (l : LogicalLan). l.is_up) (view_lans net)) (as_lan net lan)
      (in_filter (λ (l : LogicalLan). l.is_up) (view_lans net) (as_lan net lan)
      (in_map (as_lan net) (filter (λ l. same_name (logical_lan net l) l) (fin.keys net.lans)) lan
      (in_filter (λ l. same_name (logical_lan net l) l) (fin.keys net.lans) lan logical.there (ap (λ l. same_name l lan) logical.own ∙ nat_list_eq_equiv.refl lan)))
      up)
