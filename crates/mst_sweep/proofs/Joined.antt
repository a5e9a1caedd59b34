-- The places of bridges among islands, and what links join.
use Rattle.std.proofs.Common.{◌≡◌, ℕ, Bool, true, false, List, map, Some, refl, sym, ap, subst, true≢false, inl, inr}
use Rattle.std.specs.Cmp.Lexicographic.{bytes_decides}
use Rattle.std.specs.List.{Contains, list_any}
use Rattle.std.proofs.lemmas.List.Elements.{Contains-append_left, Contains-append_cases}
use Rattle.mst_graph.specs.Islands.{Island, AreJoined, link_ends, members, nodes}
use Rattle.mst_graph.specs.Walks.{Node, bridge_at, lan_at}
use Rattle.mst_graph.proofs.Members.{in_map, from_map, passing}
use Rattle.mst_graph.proofs.Walks.{back}
use Rattle.mst_net.specs.tables.Tables.{Net}
use Rattle.mst_view.specs.Aggregation.{same_name}
use Rattle.mst_vlan.specs.forest.Outcome.{Outcome}
use Rattle.mst_vlan.specs.Reach.{bridges_on, lans_up, vid_links, AreIslandsOf}
use Rattle.mst_vlan.proofs.Renumbered.{bridge_listed}
use Rattle.mst_sweep.specs.Parts.{home}
use Rattle.mst_sweep.proofs.Positions.{any_passes, both_pass, has_place, same_place}

abbrev Named : Type 0
Named = Island (List ℕ) (List ℕ)

abbrev has_bridge : List ℕ → Named → Bool
has_bridge name i = list_any (same_name name) i.bridges

named_in : (name : List ℕ) (i : Named) → has_bridge name i ≡ true → Contains i.bridges name
named_in name i e = let r = passing (same_name name) i.bridges e in subst (Contains i.bridges) (sym ((bytes_decides name r.0).0 r.2)) r.1

in_named : (name : List ℕ) (i : Named) → Contains i.bridges name → has_bridge name i ≡ true
in_named name i h = any_passes (same_name name) i.bridges name h ((bytes_decides name name).1 refl)

member : (name : List ℕ) (i : Named) → Contains i.bridges name → Contains (members i) (bridge_at name)
member name i h = Contains-append_left (map bridge_at i.bridges) (map lan_at i.lans) (bridge_at name) (in_map bridge_at i.bridges name h)

abbrev name_or : List ℕ → Node (List ℕ) (List ℕ) → List ℕ
name_or d (bridge_at n) = n
name_or d (lan_at n) = d

no_lan : (name lan : List ℕ) → (let x : Node (List ℕ) (List ℕ) = lan_at lan in x) ≡ bridge_at name → ⊥
no_lan name lan e = cc

listed : (name : List ℕ) (i : Named) → Contains (members i) (bridge_at name) → Contains i.bridges name
listed name i h = elim (Contains-append_cases (map bridge_at i.bridges) (map lan_at i.lans) (bridge_at name) h) [
  | inl x ↦ let r = from_map bridge_at i.bridges (bridge_at name) x in subst (Contains i.bridges) (ap (name_or name) r.2) r.1
  | inr x ↦ let r = from_map lan_at i.lans (bridge_at name) x in absurd (no_lan name r.0 r.2)
]

module _ (net : Net) (o : Outcome) (vid : ℕ) (islands : List Named) (are : AreIslandsOf net o vid islands) where
  node : (name : List ℕ) → Contains (bridges_on net) name → Contains (nodes (bridges_on net) (lans_up net)) (bridge_at name)
  node name h = Contains-append_left (map bridge_at (bridges_on net)) (map lan_at (lans_up net)) (bridge_at name) (in_map bridge_at (bridges_on net) name h)

  of_island : (i : Named) → Contains islands i → (name : List ℕ) → Contains i.bridges name → Contains (bridges_on net) name
  of_island i h name = bridge_listed (bridges_on net) (lans_up net) (vid_links net o vid) islands are i h name

  -- a bridge that is on is in an island, and one that is in one is on
  pub has_home : (name : List ℕ) → Contains (bridges_on net) name → (at : ℕ) × (home islands name ≡ Some at)
  has_home name h =
      let g = are.each (bridge_at name) (node name h) in
      let i = from_map members islands g.0 g.1 in
      has_place (has_bridge name) 0 islands i.0 i.1 (in_named name i.0 (listed name i.0 (subst (λ g. Contains g (bridge_at name)) (sym i.2) g.2)))

  pub home_on : (name : List ℕ) (at : ℕ) → home islands name ≡ Some at → Contains (bridges_on net) name
  home_on name at e = let r = both_pass (has_bridge name) (has_bridge name) 0 at islands e e in of_island r.0 r.1 name (named_in name r.0 r.2)

  -- bridges of one place are joined, and bridges that are joined have one
  pub home_joined : (x y : List ℕ) (at : ℕ) → home islands x ≡ Some at → home islands y ≡ Some at → AreJoined (vid_links net o vid) (bridge_at x) (bridge_at y)
  home_joined x y at e f =
      let r = both_pass (has_bridge x) (has_bridge y) 0 at islands e f in
      let first = named_in x r.0 r.2 in
      let second = named_in y r.0 r.3 in
      (are.related (members r.0) (bridge_at x) (bridge_at y) (in_map members islands r.0 r.1) (member x r.0 first) (node y (of_island r.0 r.1 y second))).0 (member y r.0 second)

  moves_on : (x y : List ℕ) → Contains (bridges_on net) y → AreJoined (vid_links net o vid) (bridge_at x) (bridge_at y) → (i : Named) → Contains islands i → has_bridge x i ≡ true → has_bridge y i ≡ true
  moves_on x y on walk i h e =
      in_named y i
      (listed y i ((are.related (members i) (bridge_at x) (bridge_at y) (in_map members islands i h) (member x i (named_in x i e)) (node y on)).1 walk))

  same_bool : (b c : Bool) → (b ≡ true → c ≡ true) → (c ≡ true → b ≡ true) → b ≡ c
  same_bool true c f g = sym (f refl)
  same_bool false true f g = absurd (true≢false (sym (g refl)))
  same_bool false false f g = refl

  pub joined_home : (x y : List ℕ) → Contains (bridges_on net) x → Contains (bridges_on net) y → AreJoined (vid_links net o vid) (bridge_at x) (bridge_at y) → home islands x ≡ home islands y
  joined_home x y first second walk =
      same_place (has_bridge x) (has_bridge y) 0 islands
      (λ i h. same_bool (has_bridge x i) (has_bridge y i) (moves_on x y second walk i h) (moves_on y x first (back link_ends walk) i h))
