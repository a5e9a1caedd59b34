-- Paths by places are paths by names.
use Rattle.std.proofs.Common.{◌≡◌, ◌≢◌, inl, inr, ℕ, zero, suc, ◌<◌, List, [], ◌∷◌, map, length, get_or, refl, sym, ◌∙◌, subst, arith}
use Rattle.std.specs.List.{Contains, All}
use Rattle.std.proofs.lemmas.List.{length-map}
use Rattle.std.proofs.lemmas.List.Elements.{Contains-get_or}
use Rattle.mst_graph.specs.Groups.{StandOnce}
use Rattle.mst_graph.proofs.Members.{cases, here, there, in_none, in_map, from_map}
use Rattle.mst_graph.proofs.Splits.{map_of_map}
use Rattle.mst_view.specs.View.{LogicalPort}
use Rattle.mst_view.specs.Viewed.{named_port}
use Rattle.mst_view.specs.declared.in_view.PortInView.{PortInView}
use Rattle.mst_path.specs.Paths.{Hop, IsHop, IsWay, ends_of, lans_of, IsPath}
use Rattle.mst_path.specs.Places.{bridge_names, lan_names, AreNodesOf, IsTree, IsPlaceHop, IsPlaceWay, end_nodes, IsPlacePath}
use Rattle.mst_path.specs.declared.hop.PlaceHop.{PlaceHop}
use Rattle.mst_path.proofs.Ways.{met, last_end}

-- what stands once by one key, by another that tells the same apart
pub once_by : {X Y Z : Type 0} (f : X → Y) (g : X → Z) (Ok : X → Type 0) → ((x y : X) → Ok x → Ok y → g x ≡ g y → f x ≡ f y) → (xs : List X) → ((x : X) → Contains xs x → Ok x) → StandOnce (map f xs) → StandOnce (map g xs)
once_by f g Ok same [] ok h = tt
once_by f g Ok same (x ∷ xs) ok h = (
  λ c. (let r = from_map g xs (g x) c in h.0 (subst (λ n. Contains (map f xs) n) (same r.0 x (ok r.0 (there x r.0 xs r.1)) (ok x (here x xs)) r.2) (in_map f xs r.0 r.1))),
  once_by f g Ok same xs (λ y c. ok y (there x y xs c)) h.1,
)

-- the names of the port at a place
pub record HasNames (ports : List PortInView) (i : ℕ) (p : LogicalPort) : Type 0 where
  pub bridge : p.name.bridge ≡ get_or (bridge_names ports) i []
  pub lan : p.lan ≡ get_or (lan_names ports) i []

names_at : (ports : List PortInView) (i : ℕ) (d : LogicalPort) → i < length ports → HasNames ports i (get_or (map named_port ports) i d)
names_at [] i d h = absurd (omega arith)
names_at (p ∷ ports) zero d h = record { bridge = refl; lan = refl }
names_at (p ∷ ports) (suc i) d h = let r = names_at ports i d (omega arith) in record { bridge = r.bridge; lan = r.lan }

-- and the place of a port
pub record HasPlace (ports : List PortInView) (p : LogicalPort) : Type 0 where
  pub place : ℕ
  pub below : place < length ports
  pub names : HasNames ports place p

pub place_of : (ports : List PortInView) (p : LogicalPort) → Contains (map named_port ports) p → HasPlace ports p
place_of ports p h =
    let below : h.0 < length ports = subst (λ n. h.0 < n) (length-map ports named_port) h.1 in
    record { place = h.0; below = below; names = subst (HasNames ports h.0) h.2 (names_at ports h.0 p below) }

-- a port of a list that has a place
pub some_port : (ports : List PortInView) (i : ℕ) → i < length ports → LogicalPort
some_port [] i h = absurd (omega arith)
some_port (p ∷ ports) i h = named_port p

module _ (ports : List PortInView) (bridges lans : List ℕ) (count : ℕ) (n : AreNodesOf ports bridges lans count) where
  abbrev bridge : ℕ → List ℕ
  bridge i = get_or (bridge_names ports) i []

  abbrev lan : ℕ → List ℕ
  lan i = get_or (lan_names ports) i []

  pub in_ports : (i : ℕ) → i < length bridges → i < length ports
  in_ports i h = subst (λ k. i < k) n.for_each h

  -- each hop of a way by places is one
  pub each_hop : (hops : List PlaceHop) (x y : ℕ) → IsPlaceWay bridges lans x y hops → (h : PlaceHop) → Contains hops h → IsPlaceHop bridges lans h
  each_hop [] x y w h c = absurd (in_none h c)
  each_hop (k ∷ hops) x y w h c = elim (cases k h hops c) [
    | inl e ↦ subst (IsPlaceHop bridges lans) e w.0
    | inr m ↦ each_hop hops (get_or bridges k.arriving 0) y w.2 h m
  ]

  pub all_below : (hops : List PlaceHop) (x y : ℕ) → IsPlaceWay bridges lans x y hops → All (λ (h : PlaceHop). (h.leaving < length ports) × (h.arriving < length ports)) hops
  all_below hops x y w = λ k d below.
      let is = each_hop hops x y w (get_or hops k d) (Contains-get_or hops k d below) in
      (in_ports (get_or hops k d).leaving is.leaving, in_ports (get_or hops k d).arriving is.arriving)

  module _ (d : LogicalPort) where
    abbrev port_at : ℕ → LogicalPort
    port_at i = get_or (map named_port ports) i d

    abbrev pub hop_at : PlaceHop → Hop
    hop_at h = record { leaving = get_or (map named_port ports) h.leaving d; arriving = get_or (map named_port ports) h.arriving d }

    pub at : (i : ℕ) → i < length bridges → HasNames ports i (port_at i)
    at i h = names_at ports i d (in_ports i h)

    listed : (i : ℕ) → i < length bridges → Contains (map named_port ports) (port_at i)
    listed i h = Contains-get_or (map named_port ports) i d (subst (λ k. i < k) (sym (length-map ports named_port)) (in_ports i h))

    -- by nodes and by names the same bridges are equal, and the same logical LANs
    pub one_bridge : (i j : ℕ) → i < length bridges → j < length bridges → get_or bridges i 0 ≡ get_or bridges j 0 → (port_at i).name.bridge ≡ (port_at j).name.bridge
    one_bridge i j h k e = (at i h).bridge ∙ (n.one_bridge i j (in_ports i h) (in_ports j k)).0 e ∙ sym (at j k).bridge

    pub bridge_back : (i j : ℕ) → i < length bridges → j < length bridges → (port_at i).name.bridge ≡ (port_at j).name.bridge → get_or bridges i 0 ≡ get_or bridges j 0
    bridge_back i j h k e = (n.one_bridge i j (in_ports i h) (in_ports j k)).1 (sym (at i h).bridge ∙ e ∙ (at j k).bridge)

    pub one_lan : (i j : ℕ) → i < length bridges → j < length bridges → get_or lans i 0 ≡ get_or lans j 0 → (port_at i).lan ≡ (port_at j).lan
    one_lan i j h k e = (at i h).lan ∙ (n.one_lan i j (in_ports i h) (in_ports j k)).0 e ∙ sym (at j k).lan

    pub lan_back : (i j : ℕ) → i < length bridges → j < length bridges → (port_at i).lan ≡ (port_at j).lan → get_or lans i 0 ≡ get_or lans j 0
    lan_back i j h k e = (n.one_lan i j (in_ports i h) (in_ports j k)).1 (sym (at i h).lan ∙ e ∙ (at j k).lan)

    hop_named : (h : PlaceHop) → IsPlaceHop bridges lans h → IsHop (map named_port ports) (hop_at h)
    hop_named h is = record {
      leaves = listed h.leaving is.leaving;
      arrives = listed h.arriving is.arriving;
      one_lan = one_lan h.leaving h.arriving is.leaving is.arriving is.one_lan;
      two_bridges = λ e. is.two_bridges (bridge_back h.leaving h.arriving is.leaving is.arriving e);
    }

    pub way_named : (hops : List PlaceHop) (x y i j : ℕ) → i < length bridges → j < length bridges → get_or bridges i 0 ≡ x → get_or bridges j 0 ≡ y → IsPlaceWay bridges lans x y hops
        → IsWay (map named_port ports) (port_at i).name.bridge (port_at j).name.bridge (map hop_at hops)
    way_named [] x y i j h k e f w = one_bridge i j h k (e ∙ w ∙ sym f)
    way_named (p ∷ hops) x y i j h k e f w = (
      hop_named p w.0,
      one_bridge p.leaving i w.0.leaving h (w.1 ∙ sym e),
      way_named hops (get_or bridges p.arriving 0) y p.arriving j w.0.arriving k refl f w.2,
    )

    path_at : (hops : List PlaceHop) (i j : ℕ) → i < length bridges → j < length bridges → IsPlacePath bridges lans (get_or bridges i 0) (get_or bridges j 0) hops
        → IsPath (map named_port ports) (port_at i).name.bridge (port_at j).name.bridge (map hop_at hops)
    path_at hops i j h k p = record {
      way = way_named hops (get_or bridges i 0) (get_or bridges j 0) i j h k refl refl p.way;
      bridges_once = (
        λ c. (let r = from_map (λ (h : PlaceHop). (port_at h.arriving).name.bridge) hops (port_at i).name.bridge (subst (λ l. Contains l (port_at i).name.bridge) ends c) in
            p.bridges_once.0 (subst (λ z. Contains (end_nodes bridges lans hops) z) (bridge_back r.0.arriving i (own r.0 r.1).arriving h r.2) (in_map (λ (h : PlaceHop). get_or bridges h.arriving 0) hops r.0 r.1))),
        subst StandOnce (sym ends) (once_by (λ (h : PlaceHop). get_or bridges h.arriving 0) (λ (h : PlaceHop). (port_at h.arriving).name.bridge) (IsPlaceHop bridges lans)
            (λ x y a b e. bridge_back x.arriving y.arriving a.arriving b.arriving e) hops own p.bridges_once.1),
      );
      lans_once = subst StandOnce (sym taken) (once_by (λ (h : PlaceHop). get_or lans h.leaving 0) (λ (h : PlaceHop). (port_at h.leaving).lan) (IsPlaceHop bridges lans)
          (λ x y a b e. lan_back x.leaving y.leaving a.leaving b.leaving e) hops own p.lans_once);
    }
      where
        own : (h : PlaceHop) → Contains hops h → IsPlaceHop bridges lans h
        own = each_hop hops (get_or bridges i 0) (get_or bridges j 0) p.way

        ends : ends_of (map hop_at hops) ≡ map (λ (h : PlaceHop). (port_at h.arriving).name.bridge) hops
        ends = map_of_map (λ (h : Hop). h.arriving.name.bridge) hop_at hops

        taken : lans_of (map hop_at hops) ≡ map (λ (h : PlaceHop). (port_at h.leaving).lan) hops
        taken = map_of_map (λ (h : Hop). h.leaving.lan) hop_at hops

    -- the path from a bridge with a port to another
    pub path_named : (hops : List PlaceHop) (i j : ℕ) (a b : List ℕ) → i < length ports → j < length ports → bridge i ≡ a → bridge j ≡ b → IsPlacePath bridges lans (get_or bridges i 0) (get_or bridges j 0) hops
        → IsPath (map named_port ports) a b (map hop_at hops)
    path_named hops i j a b h k e f p =
        let i_below : i < length bridges = subst (λ k. i < k) (sym n.for_each) h in
        let j_below : j < length bridges = subst (λ k. j < k) (sym n.for_each) k in
        subst (λ a. IsPath (map named_port ports) a b (map hop_at hops)) ((at i i_below).bridge ∙ e)
        (subst (λ b. IsPath (map named_port ports) (port_at i).name.bridge b (map hop_at hops)) ((at j j_below).bridge ∙ f) (path_at hops i j i_below j_below p))

  -- ---- where there is none
  module _ (depths : List ℕ) (last : ℕ) (last_below : last < length ports) (t : IsTree bridges lans (get_or bridges last 0) depths) where
    -- each bridge on a way is reached
    reached_back : (hops : List Hop) (a : List ℕ) → IsWay (map named_port ports) a (bridge last) hops → (i : ℕ) → i < length ports → bridge i ≡ a → 0 < get_or depths (get_or bridges i 0) 0
    reached_back [] a w i h e = let first = t.first in subst (λ x. 0 < get_or depths x 0) ((n.one_bridge last i last_below h).1 (sym w ∙ sym e)) (omega arith)
    reached_back (k ∷ hops) a w i h e =
        let from = place_of ports k.leaving w.0.leaves in
        let onto = place_of ports k.arriving w.0.arrives in
        let in_bridges : (i : ℕ) → i < length ports → i < length bridges = λ i h. subst (λ k. i < k) (sym n.for_each) h in
        let rest = reached_back hops k.arriving.name.bridge w.2 onto.place onto.below (sym onto.names.bridge) in
        let on_lan = (t.reaches (get_or bridges onto.place 0) onto.place (in_bridges onto.place onto.below, inl refl) rest (get_or lans onto.place 0) (inl (refl, refl))).0 in
        let same_lan : get_or lans onto.place 0 ≡ get_or lans from.place 0 = (n.one_lan onto.place from.place onto.below from.below).1 (sym onto.names.lan ∙ sym w.0.one_lan ∙ from.names.lan) in
        let on_bridge = (t.reaches (get_or lans from.place 0) from.place (in_bridges from.place from.below, inr refl) (subst (λ x. 0 < get_or depths x 0) same_lan on_lan) (get_or bridges from.place 0) (inr (refl, refl))).0 in
        subst (λ x. 0 < get_or depths x 0) ((n.one_bridge from.place i from.below h).1 (sym from.names.bridge ∙ w.1 ∙ sym e)) on_bridge

    pub none_reached : (i : ℕ) (a b : List ℕ) → i < length ports → bridge i ≡ a → bridge last ≡ b → get_or depths (get_or bridges i 0) 0 ≡ 0 → (hops : List Hop) → IsPath (map named_port ports) a b hops → ⊥
    none_reached i a b h e f zero_is hops p = let up = reached_back hops a (subst (λ b. IsWay (map named_port ports) a b hops) (sym f) p.way) i h e in absurd (omega arith)

-- a path between two bridges begins at a port of the one, and ends at one of the other
pub none_from : (ports : List PortInView) (a b : List ℕ) → (a ≢ b) → ((i : ℕ) → i < length ports → get_or (bridge_names ports) i [] ≢ a) → (hops : List Hop) → IsPath (map named_port ports) a b hops → ⊥
none_from ports a b apart none [] p = apart p.way
none_from ports a b apart none (h ∷ hops) p = let x = place_of ports h.leaving p.way.0.leaves in none x.place x.below (sym x.names.bridge ∙ p.way.1)

pub none_to : (ports : List PortInView) (a b : List ℕ) → (a ≢ b) → ((i : ℕ) → i < length ports → get_or (bridge_names ports) i [] ≢ b) → (hops : List Hop) → IsPath (map named_port ports) a b hops → ⊥
none_to ports a b apart none [] p = apart p.way
none_to ports a b apart none (h ∷ hops) p =
    let r = from_map (λ (h : Hop). h.arriving.name.bridge) (h ∷ hops) b (last_end (map named_port ports) b h hops a p.way) in
    let x = place_of ports r.0.arriving (met (map named_port ports) b (h ∷ hops) a p.way r.0 r.1).hop.arrives in
    none x.place x.below (sym x.names.bridge ∙ r.2)

pub stays_there : (ports : List PortInView) (a b : List ℕ) → a ≡ b → IsPath (map named_port ports) a b []
stays_there ports a b e = record { way = e; bridges_once = (in_none a, tt); lans_once = tt }
