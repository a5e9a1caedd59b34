-- Groups of nodes by their labels are the islands.
use Rattle.std.proofs.Common.{◌≡◌, ℕ, inl, inr, true, nat_eq, eq-eqb, List, map, filter_map, refl, sym, ap, subst, ◌∙◌}
use Rattle.std.specs.Cmp.{nat_eq_equiv}
use Rattle.std.specs.List.{All, Contains, list_any}
use Rattle.std.proofs.lemmas.Bool.{eqb-true}
use Rattle.std.proofs.lemmas.List.Elements.{Contains-append_cases, All-weaker, All-contains_itself}
use Rattle.std.proofs.lemmas.Map.Views.{list_any-from_Contains}
use Rattle.mst_graph.specs.Groups.{AreGroups}
use Rattle.mst_graph.proofs.Alike.{alike_groups}
use Rattle.mst_graph.proofs.Members.{in_map, from_map}
use Rattle.mst_graph.specs.Walks.{Node, stay, along, bridge_at, lan_at}
use Rattle.mst_graph.specs.Islands.{Link, Island, nodes, members, AreJoined, AreIslands, HaveEnds}
use Rattle.mst_graph.specs.Labelling.{IsPlaced, label_of, AreLabels, HavePlaces}
use Rattle.mst_graph.specs.Split.{bridge_in, lan_in}
use Rattle.mst_graph.proofs.Splits.{split_back, kept_each}

-- joined nodes have one label
pub one_label : (label : Node ℕ ℕ → ℕ) (links : List (Link ℕ ℕ)) → ((k : Link ℕ ℕ) → Contains links k → label (bridge_at k.bridge) ≡ label (lan_at k.lan)) → (a b : Node ℕ ℕ) → AreJoined links a b → label a ≡ label b
one_label label links joins a b stay = refl
one_label label links joins a b (along {b = c} k k_in (inl h) w) = sym (ap label h.0) ∙ joins k k_in ∙ ap label h.1 ∙ one_label label links joins c b w
one_label label links joins a b (along {b = c} k k_in (inr h) w) = sym (ap label h.0) ∙ sym (joins k k_in) ∙ ap label h.1 ∙ one_label label links joins c b w

module _ (bridges lans some_bridges some_lans : List ℕ) (bridges_met : (n : ℕ) → list_any (nat_eq n) bridges ≡ true → list_any (nat_eq n) some_bridges ≡ true)
    (lans_met : (n : ℕ) → list_any (nat_eq n) lans ≡ true → list_any (nat_eq n) some_lans ≡ true) where
  bridge_placed : (n : ℕ) → Contains bridges n → list_any (nat_eq n) some_bridges ≡ true
  bridge_placed n h = bridges_met n (list_any-from_Contains nat_eq_equiv n bridges h)

  lan_placed : (n : ℕ) → Contains lans n → list_any (nat_eq n) some_lans ≡ true
  lan_placed n h = lans_met n (list_any-from_Contains nat_eq_equiv n lans h)

  pub bridges_placed : All (λ n. IsPlaced some_bridges some_lans (bridge_at n)) bridges
  bridges_placed = All-weaker (Contains bridges) (λ n. IsPlaced some_bridges some_lans (bridge_at n)) bridge_placed bridges (All-contains_itself bridges)

  pub lans_placed : All (λ n. IsPlaced some_bridges some_lans (lan_at n)) lans
  lans_placed = All-weaker (Contains lans) (λ n. IsPlaced some_bridges some_lans (lan_at n)) lan_placed lans (All-contains_itself lans)

  -- the nodes are placed
  placed : (a : Node ℕ ℕ) → Contains (nodes bridges lans) a → IsPlaced some_bridges some_lans a
  placed a h = elim (Contains-append_cases (map bridge_at bridges) (map lan_at lans) a h) [
    | inl x ↦ let r = from_map bridge_at bridges a x in subst (IsPlaced some_bridges some_lans) r.2 (bridge_placed r.0 r.1)
    | inr x ↦ let r = from_map lan_at lans a x in subst (IsPlaced some_bridges some_lans) r.2 (lan_placed r.0 r.1)
  ]

  pub have_places : (links : List (Link ℕ ℕ)) → HaveEnds bridges lans links → HavePlaces some_bridges some_lans links
  have_places links have =
      All-weaker (λ (k : Link ℕ ℕ). Contains bridges k.bridge × Contains lans k.lan) (λ (k : Link ℕ ℕ). IsPlaced some_bridges some_lans (bridge_at k.bridge) × IsPlaced some_bridges some_lans (lan_at k.lan))
      (λ k h. (bridge_placed k.bridge h.0, lan_placed k.lan h.1)) links have

  pub joined_groups : (links : List (Link ℕ ℕ)) (labels : List ℕ) (groups : List (List (Node ℕ ℕ))) → AreLabels some_bridges some_lans links labels
      → AreGroups (λ a b. nat_eq (label_of some_bridges some_lans labels a) (label_of some_bridges some_lans labels b) ≡ true) (nodes bridges lans) groups
      → AreGroups (AreJoined links) (nodes bridges lans) groups
  joined_groups links labels groups labelled a =
      alike_groups (λ a b. nat_eq (label_of some_bridges some_lans labels a) (label_of some_bridges some_lans labels b) ≡ true) (AreJoined links) (nodes bridges lans) groups
      (λ x y x_in y_in. (
        λ e. labelled.only x y (placed x x_in) (placed y y_in) (eqb-true (label_of some_bridges some_lans labels x) (label_of some_bridges some_lans labels y) e),
        λ w. eq-eqb (label_of some_bridges some_lans labels x) (label_of some_bridges some_lans labels y) (one_label (label_of some_bridges some_lans labels) links labelled.joins x y w),
      ))
      a

-- the islands of groups that are split
pub split_groups : {V : Type 0} (items : V → List (Node ℕ ℕ)) (bridges lans : List ℕ) (links : List (Link ℕ ℕ)) (parts : List V) (islands : List (Island ℕ ℕ)) → AreGroups (AreJoined links) (nodes bridges lans) (map items parts)
    → map members islands ≡ map (λ part. nodes (filter_map bridge_in (items part)) (filter_map lan_in (items part))) parts → AreIslands bridges lans links islands
split_groups items bridges lans links parts islands a split =
    subst (AreGroups (AreJoined links) (nodes bridges lans))
    (sym (split ∙ kept_each (λ part. nodes (filter_map bridge_in (items part)) (filter_map lan_in (items part))) items parts
    (λ part h. split_back bridges lans (items part) (a.in_order (items part) (in_map items parts part h))))) a
