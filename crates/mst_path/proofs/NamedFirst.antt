-- The first path by places is the first one by names, where ports stand by bridge and number.
use Rattle.std.proofs.Common.{◌≡◌, ◌≢◌, inl, inr, ℕ, ◌<◌, List, [], ◌∷◌, map, length, get_or, refl, sym, ap, ◌∙◌, subst, arith, Less, Equal, Greater}
use Rattle.std.specs.List.{Contains}
use Rattle.std.specs.Ordering.{nat_cmp, ordering_then, ordering_reverse, MatchOrdering}
use Rattle.std.specs.declared.cmp.Ordering.{Ordering}
use Rattle.std.specs.Cmp.{tied_itself}
use Rattle.std.specs.Cmp.Lexicographic.{slice_cmp}
use Rattle.std.proofs.lemmas.Cmp.{ranked}
use Rattle.std.proofs.lemmas.List.{length-map, get_or-map, get_or_default}
use Rattle.mst_graph.specs.Groups.{StandOnce}
use Rattle.mst_graph.proofs.Members.{cases, here, there, in_none, in_map, from_map}
use Rattle.mst_graph.proofs.Splits.{map_of_map}
use Rattle.mst_ids.specs.Names.{port_cmp}
use Rattle.mst_ids.specs.declared.name.PortName.{PortName}
use Rattle.mst_view.specs.View.{LogicalPort}
use Rattle.mst_view.specs.Viewed.{named_port}
use Rattle.mst_view.specs.declared.in_view.PortInView.{PortInView}
use Rattle.mst_vlan.proofs.forest_lemmas.Views.{ports_total}
use Rattle.mst_path.specs.Paths.{Hop, IsWay, IsPath, IsFirstPath, ends_of, lans_of, hop_cmp, path_cmp}
use Rattle.mst_path.specs.Places.{bridge_names, IsRising, AreNodesOf, IsPlaceWay, IsPlacePath, IsFirstPlacePath, place_hop_cmp, place_path_cmp}
use Rattle.mst_path.specs.declared.hop.PlaceHop.{PlaceHop}
use Rattle.mst_path.proofs.Named.{once_by, in_ports, each_hop, hop_at, at, one_bridge, bridge_back, one_lan, lan_back, path_named}

some_port : (ports : List PortInView) (i : ℕ) → i < length ports → PortInView
some_port [] i h = absurd (omega arith)
some_port (p ∷ ports) i h = p

module _ (ports : List PortInView) (bridges lans : List ℕ) (count : ℕ) (n : AreNodesOf ports bridges lans count) (rises : IsRising ports) (d : LogicalPort) where
  abbrev port_at : ℕ → LogicalPort
  port_at i = get_or (map named_port ports) i d

  abbrev hop : PlaceHop → Hop
  hop h = hop_at ports bridges lans count n d h

  abbrev AreIn : List PlaceHop → Type 0
  AreIn hops = (h : PlaceHop) → Contains hops h → (h.leaving < length bridges) × (h.arriving < length bridges)

  inside : (i : ℕ) → i < length bridges → i < length ports
  inside = in_ports ports bridges lans count n

  -- ---- the order
  port_rises : (i j : ℕ) → i < j → j < length ports → port_cmp (port_at i).name (port_at j).name ≡ Less
  port_rises i j l h =
      let x : PortInView = some_port ports j h in
      let name : LogicalPort → PortName = λ p. p.name in
      let first : (port_at i).name ≡ (get_or ports i x).name = ap name (get_or-map named_port ports i x d (omega arith)) in
      let second : (port_at j).name ≡ (get_or ports j x).name = ap name (get_or-map named_port ports j x d h) in
      (λ k. port_cmp (first k) (second k)) ∙ rises i j l h x

  port_order : (i j : ℕ) → i < length ports → j < length ports → port_cmp (port_at i).name (port_at j).name ≡ nat_cmp i j
  port_order i j h k = go (nat_cmp i j) (ranked i j (nat_cmp i j) refl)
    where
      go : (r : Ordering) → MatchOrdering r (i < j) (i ≡ j) (j < i) → port_cmp (port_at i).name (port_at j).name ≡ r
      go Less l = port_rises i j l k
      go Equal e = ap (λ j. port_cmp (port_at i).name (port_at j).name) (sym e) ∙ tied_itself ports_total (port_at i).name
      go Greater l = ports_total.antisymm (port_at i).name (port_at j).name ∙ ap ordering_reverse (port_rises j i l h)

  hop_order : (h k : PlaceHop) → (h.leaving < length bridges) × (h.arriving < length bridges) → (k.leaving < length bridges) × (k.arriving < length bridges) → hop_cmp (hop h) (hop k) ≡ place_hop_cmp h k
  hop_order h k l m = λ i. ordering_then (port_order h.arriving k.arriving (inside h.arriving l.1) (inside k.arriving m.1) i) (port_order h.leaving k.leaving (inside h.leaving l.0) (inside k.leaving m.0) i)

  hops_order : (hops others : List PlaceHop) → AreIn hops → AreIn others → slice_cmp hop_cmp (map hop hops) (map hop others) ≡ slice_cmp place_hop_cmp hops others
  hops_order [] [] l m = refl
  hops_order [] (k ∷ ks) l m = refl
  hops_order (h ∷ hs) [] l m = refl
  hops_order (h ∷ hs) (k ∷ ks) l m =
      let rest = hops_order hs ks (λ g c. l g (there h g hs c)) (λ g c. m g (there k g ks c)) in
      let first = hop_order h k (l h (here h hs)) (m k (here k ks)) in
      λ i. ordering_then (first i) (rest i)

  path_order : (hops others : List PlaceHop) → AreIn hops → AreIn others → path_cmp (map hop hops) (map hop others) ≡ place_path_cmp hops others
  path_order hops others l m =
      let long : length (map hop hops) ≡ length hops = length-map hops hop in
      let longs : length (map hop others) ≡ length others = length-map others hop in
      let rest = hops_order hops others l m in
      λ i. ordering_then (nat_cmp (long i) (longs i)) (rest i)

  -- ---- each path by names is one by places
  record HasPlaces (hops : List Hop) : Type 0 where
    places : List PlaceHop
    are : map hop places ≡ hops
    all_in : AreIn places

  record HasPlace (p : LogicalPort) : Type 0 where
    place : ℕ
    below : place < length bridges
    is : port_at place ≡ p

  place_at : (p : LogicalPort) → Contains (map named_port ports) p → HasPlace p
  place_at p c = record {
    place = c.0;
    below = let a = c.1 in let long : length (map named_port ports) ≡ length ports = length-map ports named_port in let e = n.for_each in omega arith;
    is = get_or_default (map named_port ports) c.0 d p c.1 ∙ c.2;
  }

  placed : (hops : List Hop) (a b : List ℕ) → IsWay (map named_port ports) a b hops → HasPlaces hops
  placed [] a b w = record { places = []; are = refl; all_in = λ h c. absurd (in_none h c) }
  placed (h ∷ hops) a b w =
      let from = place_at h.leaving w.0.leaves in
      let onto = place_at h.arriving w.0.arrives in
      let rest = placed hops h.arriving.name.bridge b w.2 in
      let one : PlaceHop = record { leaving = from.place; arriving = onto.place } in
      let leaves = from.is in
      let arrives = onto.is in
      let others = rest.are in
      record {
        places = one ∷ rest.places;
        are = λ i. record { leaving = leaves i; arriving = arrives i } ∷ others i;
        all_in = λ g c. elim (cases one g rest.places c) [ inl e ↦ subst (λ (g : PlaceHop). (g.leaving < length bridges) × (g.arriving < length bridges)) e (from.below, onto.below) | inr k ↦ rest.all_in g k ];
      }

  way_back : (hops : List PlaceHop) (i j : ℕ) → i < length bridges → j < length bridges → AreIn hops → IsWay (map named_port ports) (port_at i).name.bridge (port_at j).name.bridge (map hop hops) → IsPlaceWay bridges lans (get_or bridges i 0) (get_or bridges j 0) hops
  way_back [] i j h k all w = bridge_back ports bridges lans count n d i j h k w
  way_back (p ∷ hops) i j h k all w =
      let own = all p (here p hops) in (
        record {
          leaving = own.0;
          arriving = own.1;
          one_lan = lan_back ports bridges lans count n d p.leaving p.arriving own.0 own.1 w.0.one_lan;
          two_bridges = λ e. w.0.two_bridges (one_bridge ports bridges lans count n d p.leaving p.arriving own.0 own.1 e);
        },
        bridge_back ports bridges lans count n d p.leaving i own.0 h w.1,
        way_back hops p.arriving j own.1 k (λ g c. all g (there p g hops c)) w.2,
      )

  path_back : (hops : List PlaceHop) (i j : ℕ) → i < length bridges → j < length bridges → AreIn hops → IsPath (map named_port ports) (port_at i).name.bridge (port_at j).name.bridge (map hop hops)
      → IsPlacePath bridges lans (get_or bridges i 0) (get_or bridges j 0) hops
  path_back hops i j h k all p = record {
    way = way_back hops i j h k all p.way;
    bridges_once = (
      λ c. (let r = from_map (λ (h : PlaceHop). get_or bridges h.arriving 0) hops (get_or bridges i 0) c in
          p.bridges_once.0 (subst (λ l. Contains l (port_at i).name.bridge) (sym ends) (subst (λ z. Contains (map (λ (h : PlaceHop). (port_at h.arriving).name.bridge) hops) z) (one_bridge ports bridges lans count n d r.0.arriving i (all r.0 r.1).1 h r.2)
          (in_map (λ (h : PlaceHop). (port_at h.arriving).name.bridge) hops r.0 r.1)))),
      once_by (λ (h : PlaceHop). (port_at h.arriving).name.bridge) (λ (h : PlaceHop). get_or bridges h.arriving 0) (λ (h : PlaceHop). (h.leaving < length bridges) × (h.arriving < length bridges))
          (λ x y a b e. one_bridge ports bridges lans count n d x.arriving y.arriving a.1 b.1 e) hops all (subst StandOnce ends p.bridges_once.1),
    );
    lans_once = once_by (λ (h : PlaceHop). (port_at h.leaving).lan) (λ (h : PlaceHop). get_or lans h.leaving 0) (λ (h : PlaceHop). (h.leaving < length bridges) × (h.arriving < length bridges))
        (λ x y a b e. one_lan ports bridges lans count n d x.leaving y.leaving a.0 b.0 e) hops all (subst StandOnce taken p.lans_once);
  }
    where
      ends : ends_of (map hop hops) ≡ map (λ (h : PlaceHop). (port_at h.arriving).name.bridge) hops
      ends = map_of_map (λ (h : Hop). h.arriving.name.bridge) hop hops

      taken : lans_of (map hop hops) ≡ map (λ (h : PlaceHop). (port_at h.leaving).lan) hops
      taken = map_of_map (λ (h : Hop). h.leaving.lan) hop hops

  -- ---- the first one
  pub first_named : (hops : List PlaceHop) (i j : ℕ) (a b : List ℕ) → i < length ports → j < length ports → get_or (bridge_names ports) i [] ≡ a → get_or (bridge_names ports) j [] ≡ b
      → IsFirstPlacePath bridges lans (get_or bridges i 0) (get_or bridges j 0) hops → IsFirstPath (map named_port ports) a b (map (hop_at ports bridges lans count n d) hops)
  first_named hops i j a b h k e f p = record {
    path = path_named ports bridges lans count n d hops i j a b h k e f p.path;
    first = λ others q. (let pl = placed others a b q.way in subst (λ o. path_cmp (map hop hops) o ≢ Greater) pl.are (behind pl.places pl.all_in (subst (IsPath (map named_port ports) a b) (sym pl.are) q)));
  }
    where
      i_below : i < length bridges
      i_below = subst (λ k. i < k) (sym n.for_each) h

      j_below : j < length bridges
      j_below = subst (λ k. j < k) (sym n.for_each) k

      own : AreIn hops
      own = λ g c. (let is = each_hop ports bridges lans count n hops (get_or bridges i 0) (get_or bridges j 0) p.path.way g c in (is.leaving, is.arriving))

      behind : (places : List PlaceHop) → AreIn places → IsPath (map named_port ports) a b (map hop places) → path_cmp (map hop hops) (map hop places) ≢ Greater
      behind places all q g =
          let from : a ≡ (port_at i).name.bridge = sym ((at ports bridges lans count n d i i_below).bridge ∙ e) in
          let onto : b ≡ (port_at j).name.bridge = sym ((at ports bridges lans count n d j j_below).bridge ∙ f) in
          let back = path_back places i j i_below j_below all (subst (λ a. IsPath (map named_port ports) a (port_at j).name.bridge (map hop places)) from (subst (λ b. IsPath (map named_port ports) a b (map hop places)) onto q)) in
          p.first places back (sym (path_order hops places own all) ∙ g)
