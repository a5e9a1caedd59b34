-- The islands by new keys.
use Rattle.std.proofs.Common.{◌≡◌, inl, inr, List, [], ◌∷◌, ◌++◌, map, refl, sym, ap, subst, ◌∙◌}
use Rattle.std.specs.List.{Contains}
use Rattle.std.proofs.lemmas.List.{map-append}
use Rattle.std.proofs.lemmas.List.Elements.{All-contains, Contains-append_cases, Contains-append_left, Contains-append_right}
use Rattle.mst_graph.specs.Groups.{AreGroups}
use Rattle.mst_graph.proofs.Members.{in_map, from_map}
use Rattle.mst_graph.proofs.Renamed.{renamed_groups}
use Rattle.mst_graph.specs.Walks.{Links, stay, along, Node, bridge_at, lan_at}
use Rattle.mst_graph.specs.Islands.{Link, Island, link_ends, nodes, members, AreJoined, AreIslands, HaveEnds}
use Rattle.mst_graph.specs.Renaming.{KeepApart, link_by, island_by}
use Rattle.mst_graph.proofs.Splits.{map_of_map}

module _ {N L M K : Type 0} (bridge_key : N → M) (lan_key : L → K) where
  abbrev node_by : Node N L → Node M K
  node_by (bridge_at n) = bridge_at (bridge_key n)
  node_by (lan_at n) = lan_at (lan_key n)

  abbrev bridge_or : N → Node N L → N
  bridge_or d (bridge_at n) = n
  bridge_or d (lan_at n) = d

  abbrev lan_or : L → Node N L → L
  lan_or d (bridge_at n) = d
  lan_or d (lan_at n) = n

  abbrev bridge_of : M → Node M K → M
  bridge_of d (bridge_at n) = n
  bridge_of d (lan_at n) = d

  abbrev lan_of : K → Node M K → K
  lan_of d (bridge_at n) = d
  lan_of d (lan_at n) = n

  -- the nodes by their keys
  nodes_are : (bridges : List N) (lans : List L) → map node_by (nodes bridges lans) ≡ nodes (map bridge_key bridges) (map lan_key lans)
  nodes_are bridges lans =
      map-append node_by (map bridge_at bridges) (map lan_at lans)
      ∙ ap (λ xs. xs ++ map node_by (map lan_at lans)) (map_of_map node_by bridge_at bridges ∙ sym (map_of_map bridge_at bridge_key bridges))
      ∙ ap (λ xs. map bridge_at (map bridge_key bridges) ++ xs) (map_of_map node_by lan_at lans ∙ sym (map_of_map lan_at lan_key lans))

  members_are : (islands : List (Island N L)) → map (map node_by) (map members islands) ≡ map members (map (island_by bridge_key lan_key) islands)
  members_are [] = refl
  members_are (i ∷ islands) =
      ap (λ g. g ∷ map (map node_by) (map members islands)) (nodes_are i.bridges i.lans)
      ∙ ap (λ gs. nodes (map bridge_key i.bridges) (map lan_key i.lans) ∷ gs) (members_are islands)

  -- a walk by numbers is one by keys
  there : (links : List (Link N L)) (a b : Node N L) → AreJoined links a b → AreJoined (map (link_by bridge_key lan_key) links) (node_by a) (node_by b)
  there links a b stay = stay
  there links a b (along {b = c} k k_in (inl h) w) =
      along (link_by bridge_key lan_key k) (in_map (link_by bridge_key lan_key) links k k_in) (inl (ap node_by h.0, ap node_by h.1)) (there links c b w)
  there links a b (along {b = c} k k_in (inr h) w) =
      along (link_by bridge_key lan_key k) (in_map (link_by bridge_key lan_key) links k k_in) (inr (ap node_by h.0, ap node_by h.1)) (there links c b w)

  module _ (bridges : List N) (lans : List L) (bridges_apart : KeepApart bridge_key bridges) (lans_apart : KeepApart lan_key lans) where
    bridge_there : (n : N) → Contains (nodes bridges lans) (bridge_at n) → Contains bridges n
    bridge_there n h = elim (Contains-append_cases (map bridge_at bridges) (map lan_at lans) (bridge_at n) h) [
      | inl x ↦ let r = from_map bridge_at bridges (bridge_at n) x in subst (Contains bridges) (ap (bridge_or n) r.2) r.1
      | inr x ↦ let r = from_map lan_at lans (bridge_at n) x in absurd (apart r.0 n r.2)
    ]
      where
        apart : (m : L) (k : N) → (let a : Node N L = lan_at m in a) ≡ bridge_at k → ⊥
        apart m k e = cc

    lan_there : (n : L) → Contains (nodes bridges lans) (lan_at n) → Contains lans n
    lan_there n h = elim (Contains-append_cases (map bridge_at bridges) (map lan_at lans) (lan_at n) h) [
      | inl x ↦ let r = from_map bridge_at bridges (lan_at n) x in absurd (apart r.0 n r.2)
      | inr x ↦ let r = from_map lan_at lans (lan_at n) x in subst (Contains lans) (ap (lan_or n) r.2) r.1
    ]
      where
        apart : (m : N) (k : L) → (let a : Node N L = bridge_at m in a) ≡ lan_at k → ⊥
        apart m k e = cc

    -- no two nodes have one key
    one_node : (a b : Node N L) → Contains (nodes bridges lans) a → Contains (nodes bridges lans) b → node_by a ≡ node_by b → a ≡ b
    one_node (bridge_at n) (bridge_at m) x y e = ap bridge_at (bridges_apart n m (bridge_there n x) (bridge_there m y) (ap (bridge_of (bridge_key n)) e))
    one_node (lan_at n) (lan_at m) x y e = ap lan_at (lans_apart n m (lan_there n x) (lan_there m y) (ap (lan_of (lan_key n)) e))
    one_node (bridge_at n) (lan_at m) x y e = cc
    one_node (lan_at n) (bridge_at m) x y e = cc

    module _ (links : List (Link N L)) (have : HaveEnds bridges lans links) where
      bridge_end : (k : Link N L) → Contains links k → Contains (nodes bridges lans) (bridge_at k.bridge)
      bridge_end k h =
          Contains-append_left (map bridge_at bridges) (map lan_at lans) (bridge_at k.bridge)
          (in_map bridge_at bridges k.bridge (All-contains (λ (k : Link N L). Contains bridges k.bridge × Contains lans k.lan) links k have h).0)

      lan_end : (k : Link N L) → Contains links k → Contains (nodes bridges lans) (lan_at k.lan)
      lan_end k h =
          Contains-append_right (map bridge_at bridges) (map lan_at lans) (lan_at k.lan)
          (in_map lan_at lans k.lan (All-contains (λ (k : Link N L). Contains bridges k.bridge × Contains lans k.lan) links k have h).1)

      record Back (a : Node N L) (z : Node M K) : Type 0 where
        node : Node N L
        is_node : Contains (nodes bridges lans) node
        is_key : node_by node ≡ z
        walk : AreJoined links a node

      step : (k : Link N L) → Contains links k → (a c : Node N L) (z : Node M K) → Links link_ends k a c → Back c z → Back a z
      step k k_in a c z l b = record { node = b.node; is_node = b.is_node; is_key = b.is_key; walk = along k k_in l b.walk }

      -- a walk by keys is one by numbers
      back : (a : Node N L) (u z : Node M K) → Contains (nodes bridges lans) a → node_by a ≡ u → AreJoined (map (link_by bridge_key lan_key) links) u z → Back a z
      back a u z a_in e stay = record { node = a; is_node = a_in; is_key = e; walk = stay }
      back a u z a_in e (along {b = c} k k_in (inl h) w) =
          let r = from_map (link_by bridge_key lan_key) links k k_in in
          let is : bridge_at (r.0).bridge ≡ a = one_node (bridge_at (r.0).bridge) a (bridge_end r.0 r.1) a_in (ap (λ (j : Link M K). bridge_at j.bridge) r.2 ∙ h.0 ∙ sym e) in
          step r.0 r.1 a (lan_at (r.0).lan) z (inl (is, refl)) (back (lan_at (r.0).lan) c z (lan_end r.0 r.1) (ap (λ (j : Link M K). lan_at j.lan) r.2 ∙ h.1) w)
      back a u z a_in e (along {b = c} k k_in (inr h) w) =
          let r = from_map (link_by bridge_key lan_key) links k k_in in
          let is : lan_at (r.0).lan ≡ a = one_node (lan_at (r.0).lan) a (lan_end r.0 r.1) a_in (ap (λ (j : Link M K). lan_at j.lan) r.2 ∙ h.0 ∙ sym e) in
          step r.0 r.1 a (bridge_at (r.0).bridge) z (inr (is, refl)) (back (bridge_at (r.0).bridge) c z (bridge_end r.0 r.1) (ap (λ (j : Link M K). bridge_at j.bridge) r.2 ∙ h.1) w)

      joined_back : (a b : Node N L) → Contains (nodes bridges lans) a → Contains (nodes bridges lans) b
          → AreJoined (map (link_by bridge_key lan_key) links) (node_by a) (node_by b) → AreJoined links a b
      joined_back a b a_in b_in w =
          let r = back a (node_by a) (node_by b) a_in refl w in
          subst (AreJoined links a) (one_node r.node b r.is_node b_in r.is_key) r.walk

      pub by_keys : (islands : List (Island N L)) → AreIslands bridges lans links islands
          → AreIslands (map bridge_key bridges) (map lan_key lans) (map (link_by bridge_key lan_key) links) (map (island_by bridge_key lan_key) islands)
      by_keys islands a =
          subst (λ ns. AreGroups (AreJoined (map (link_by bridge_key lan_key) links)) ns (map members (map (island_by bridge_key lan_key) islands))) (nodes_are bridges lans)
          (subst (AreGroups (AreJoined (map (link_by bridge_key lan_key) links)) (map node_by (nodes bridges lans))) (members_are islands)
          (renamed_groups node_by (AreJoined links) (AreJoined (map (link_by bridge_key lan_key) links)) (nodes bridges lans) (map members islands) one_node
          (λ x y x_in y_in. (there links x y, joined_back x y x_in y_in)) a))
