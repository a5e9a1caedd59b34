-- There is a path just where one island has both bridges.
use Rattle.std.proofs.Common.{◌≡◌, ◌≢◌, ◌⊎◌, inl, inr, ℕ, List, [], ◌∷◌, map, refl, sym, ap, ◌∙◌, subst}
use Rattle.std.specs.List.{Contains}
use Rattle.std.proofs.lemmas.List.Elements.{Contains-append_cases, Contains-append_left}
use Rattle.mst_graph.specs.Walks.{Walk, stay, along, Node, bridge_at, lan_at}
use Rattle.mst_graph.specs.Islands.{Link, Island, AreIslands, link_ends, nodes, members}
use Rattle.mst_graph.proofs.Members.{in_map, from_map}
use Rattle.mst_view.specs.View.{LogicalPort}
use Rattle.mst_vlan.specs.Reach.{link_of}
use Rattle.mst_path.specs.Paths.{Hop, IsWay, HasBoth}
use Rattle.mst_path.proofs.Names.{name_cases}
use Rattle.mst_path.proofs.Short.{HasPath, shortened}

abbrev Names : Type 0
Names = Node (List ℕ) (List ℕ)

abbrev LinkByName : Type 0
LinkByName = Link (List ℕ) (List ℕ)

-- a bridge among nodes is one of the bridges
bridge_in_nodes : (bridges lans : List (List ℕ)) (a : List ℕ) → Contains (nodes bridges lans) (bridge_at a) → Contains bridges a
bridge_in_nodes bridges lans a h = elim (Contains-append_cases (map bridge_at bridges) (map lan_at lans) (bridge_at a) h) [
  | inl m ↦ let x = from_map bridge_at bridges (bridge_at a) m in subst (λ n. Contains bridges n) (named x.0 a x.2) x.1
  | inr m ↦ let x = from_map lan_at lans (bridge_at a) m in absurd (differ x.0 a x.2)
]
  where
    named : (x a : List ℕ) → (let n : Names = bridge_at x in n) ≡ bridge_at a → x ≡ a
    named x a e = cc

    differ : (x a : List ℕ) → (let n : Names = lan_at x in n) ≡ bridge_at a → ⊥
    differ x a e = cc

module _ (ports : List LogicalPort) (b : List ℕ) where
  -- the ways on from a bridge, or from a logical LAN by a port that is on it
  record HasWayOff (l : List ℕ) : Type 0 where
    port : LogicalPort
    own : Contains ports port
    on : port.lan ≡ l
    hops : List Hop
    way : IsWay ports port.name.bridge b hops

  abbrev HasWay : Names → Type 0
  HasWay (bridge_at a) = (hops : List Hop) × IsWay ports a b hops
  HasWay (lan_at l) = HasWayOff l

  onto : (p : LogicalPort) → Contains ports p → HasWayOff p.lan → HasWay (bridge_at p.name.bridge)
  onto p own w = go (name_cases p.name.bridge w.port.name.bridge)
    where
      go : (p.name.bridge ≡ w.port.name.bridge) ⊎ (p.name.bridge ≢ w.port.name.bridge) → (hops : List Hop) × IsWay ports p.name.bridge b hops
      go (inl e) = (w.hops, subst (λ n. IsWay ports n b w.hops) (sym e) w.way)
      go (inr n) = (record { leaving = p; arriving = w.port } ∷ w.hops, (record { leaves = own; arrives = w.own; one_lan = sym w.on; two_bridges = n }, refl, w.way))

  off : (p : LogicalPort) → Contains ports p → HasWay (bridge_at p.name.bridge) → HasWayOff p.lan
  off p own w = record { port = p; own = own; on = refl; hops = w.0; way = w.1 }

  ways : {x y : Names} → Walk link_ends (Contains (map link_of ports)) x y → HasWay y → HasWay x
  ways stay h = h
  ways (along {a = x} {b = m} e p l rest) h = go (from_map link_of ports e p) (ways rest h)
    where
      go : (q : LogicalPort) × Contains ports q × (link_of q ≡ e) → HasWay m → HasWay x
      go q w = elim l [
        | inl k ↦ subst HasWay (ap (λ (e : LinkByName). bridge_at e.bridge) q.2 ∙ k.0) (onto q.0 q.1 (subst HasWay (sym k.1 ∙ ap (λ (e : LinkByName). lan_at e.lan) (sym q.2)) w))
        | inr k ↦ subst HasWay (ap (λ (e : LinkByName). lan_at e.lan) q.2 ∙ k.0) (off q.0 q.1 (subst HasWay (sym k.1 ∙ ap (λ (e : LinkByName). bridge_at e.bridge) (sym q.2)) w))
      ]

  pub path_by : (a : List ℕ) → Walk link_ends (Contains (map link_of ports)) (bridge_at a) (bridge_at b) → HasPath ports b a
  path_by a w = let way = ways w ([], refl) in shortened ports b way.0 a way.1

  -- and the walk of a way over the links of the ports
  pub walk_of : (hops : List Hop) (a : List ℕ) → IsWay ports a b hops → Walk link_ends (Contains (map link_of ports)) (bridge_at a) (bridge_at b)
  walk_of [] a w = subst (λ (n : List ℕ). Walk link_ends (Contains (map link_of ports)) (bridge_at a) (bridge_at n)) w stay
  walk_of (k ∷ hops) a w =
      along (link_of k.leaving) (in_map link_of ports k.leaving w.0.leaves) (inl (ap bridge_at w.1, refl))
      (along (link_of k.arriving) (in_map link_of ports k.arriving w.0.arrives) (inr (ap lan_at (sym w.0.one_lan), refl)) (walk_of hops k.arriving.name.bridge w.2))

module _ (bridges lans : List (List ℕ)) (ports : List LogicalPort) (islands : List (Island (List ℕ) (List ℕ))) (are : AreIslands bridges lans (map link_of ports) islands) (a b : List ℕ) (a_on : Contains bridges a) (b_on : Contains bridges b) where
  among : (n : List ℕ) → Contains bridges n → Contains (nodes bridges lans) (bridge_at n)
  among n h = Contains-append_left (map bridge_at bridges) (map lan_at lans) (bridge_at n) (in_map bridge_at bridges n h)

  pub path_inside : HasBoth islands a b → HasPath ports b a
  path_inside both =
      let own : (n : List ℕ) → Contains both.island.bridges n → Contains (members both.island) (bridge_at n) =
      λ n h. Contains-append_left (map bridge_at both.island.bridges) (map lan_at both.island.lans) (bridge_at n) (in_map bridge_at both.island.bridges n h) in
      path_by ports b a ((are.related (members both.island) (bridge_at a) (bridge_at b) (in_map members islands both.island both.listed) (own a both.first) (among b b_on)).0 (own b both.second))

  pub both_of : HasPath ports b a → HasBoth islands a b
  both_of path =
      let group = are.each (bridge_at a) (among a a_on) in
      let island = from_map members islands group.0 group.1 in
      let has_a : Contains (members island.0) (bridge_at a) = subst (λ g. Contains g (bridge_at a)) (sym island.2) group.2 in
      let has_b : Contains (members island.0) (bridge_at b) = (are.related (members island.0) (bridge_at a) (bridge_at b) (in_map members islands island.0 island.1) has_a (among b b_on)).1 (walk_of ports b path.0 a path.1.way) in
      record {
        island = island.0;
        listed = island.1;
        first = bridge_in_nodes island.0.bridges island.0.lans a has_a;
        second = bridge_in_nodes island.0.bridges island.0.lans b has_b;
      }
