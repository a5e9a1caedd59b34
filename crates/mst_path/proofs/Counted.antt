-- The path from a bridge to the root of a search has as many hops as the depth of its node says.
use Rattle.std.proofs.Common.{◌≡◌, ◌≢◌, inl, inr, ℕ, zero, suc, ◌+◌, ◌-◌, ◌*◌, ◌/◌, ◌<◌, ◌≤◌, Bool, List, [], ◌∷◌, map, length, get_or, Option, Some, None, refl, sym, ap, ◌∙◌, subst, arith}
use Rattle.std.specs.Prelude.{if◌then◌else◌}
use Rattle.std.proofs.Math.Dec.{eqb-suc-zero}
use Rattle.std.proofs.lemmas.List.{length-map}
use Rattle.mst_view.specs.View.{LogicalPort}
use Rattle.mst_view.specs.Viewed.{named_port}
use Rattle.mst_view.specs.declared.in_view.PortInView.{PortInView}
use Rattle.mst_path.specs.Counts.{hops_at}
use Rattle.mst_path.specs.Paths.{Hop, IsFirstPath, IsHopCount, IsPathOver, IsWay}
use Rattle.mst_path.specs.Places.{AreNodesOf, IsBridgeNode, IsPlaceWay, IsTree, LeadsOn, bridge_at}
use Rattle.mst_path.specs.declared.hop.PlaceHop.{PlaceHop}
use Rattle.mst_path.proofs.First.{path_over}
use Rattle.mst_path.proofs.Least.{fewest}
use Rattle.mst_path.proofs.Named.{at, hop_at, none_reached, place_of, some_port, way_named}
use Rattle.mst_path.proofs.Short.{path_or_less}

-- ---- a way down the tree of a search, by places
module _ (bridges lans depths : List ℕ) (root : ℕ) (apart : (i j : ℕ) → i < length bridges → j < length bridges → get_or bridges i 0 ≢ get_or lans j 0) (root_on : IsBridgeNode bridges lans root) (tree : IsTree bridges lans root depths) where
  pub record HasWay (x : ℕ) : Type 0 where
    pub hops : List PlaceHop
    pub way : IsPlaceWay bridges lans x root hops
    pub deep : get_or depths x 0 ≡ 2 * length hops + 1

  -- the root itself is one node deep
  from_root : (x : ℕ) → x ≡ root → HasWay x
  from_root x e = record { hops = []; way = e; deep = let a = tree.first in let b : get_or depths x 0 ≡ get_or depths root 0 = ap (λ z. get_or depths z 0) e in omega arith }

  -- a hop by the port at p, off by that at q
  by_hop : (x p q : ℕ) → LeadsOn bridges lans depths x p → LeadsOn bridges lans depths (get_or lans p 0) q → get_or bridges p 0 ≡ x → get_or lans q 0 ≡ get_or lans p 0 → HasWay (get_or bridges q 0)
      → get_or depths (get_or lans p 0) 0 + 1 ≡ get_or depths x 0 → get_or depths (get_or bridges q 0) 0 + 1 ≡ get_or depths (get_or lans p 0) 0 → HasWay x
  by_hop x p q on off from onto rest less lesser = record {
    hops = record { leaving = p; arriving = q } ∷ rest.hops;
    way = (
      record {
        leaving = on.below;
        arriving = off.below;
        one_lan = sym onto;
        two_bridges = λ e. (let a : get_or depths (get_or bridges p 0) 0 ≡ get_or depths (get_or bridges q 0) 0 = ap (λ z. get_or depths z 0) e in
            let b : get_or depths (get_or bridges p 0) 0 ≡ get_or depths x 0 = ap (λ z. get_or depths z 0) from in omega arith);
      },
      from,
      rest.way,
    );
    deep = let a = rest.deep in omega arith;
  }

  -- by the port at p, which leads from a bridge's node on to its logical LAN, where there are ways from all that lie no deeper than this
  by_lan : (most x : ℕ) → ((y : ℕ) → IsBridgeNode bridges lans y → 0 < get_or depths y 0 → get_or depths y 0 ≤ most → HasWay y) → get_or depths x 0 ≤ most + 1 → (p : ℕ) → (l : LeadsOn bridges lans depths x p) → get_or bridges p 0 ≡ x → get_or lans p 0 ≡ l.next → HasWay x
  by_lan most x down low p l from lan =
      let lan_deep : get_or depths (get_or lans p 0) 0 ≡ get_or depths l.next 0 = ap (λ z. get_or depths z 0) lan in
      let lan_reached : 0 < get_or depths (get_or lans p 0) 0 = let a = l.reached in omega arith in
      let less : get_or depths (get_or lans p 0) 0 + 1 ≡ get_or depths x 0 = ap (λ d. d + 1) lan_deep ∙ l.less in
      elim (tree.leads (get_or lans p 0) lan_reached) [
        | inl e ↦ absurd (apart root_on.0 p root_on.1 l.below (root_on.2 ∙ sym e))
        | inr k ↦ elim k.1.joins [
          | inl j ↦ absurd (apart k.0 p k.1.below l.below j.0)
          | inr j ↦ (let deep : get_or depths (get_or bridges k.0 0) 0 ≡ get_or depths k.1.next 0 = ap (λ z. get_or depths z 0) j.1 in
              let lesser : get_or depths (get_or bridges k.0 0) 0 + 1 ≡ get_or depths (get_or lans p 0) 0 = ap (λ d. d + 1) deep ∙ k.1.less in
              let there : 0 < get_or depths (get_or bridges k.0 0) 0 = let a = k.1.reached in omega arith in
              by_hop x p k.0 l k.1 from j.0 (down (get_or bridges k.0 0) (k.0, k.1.below, refl) there (omega arith)) less lesser)
        ]
      ]

  -- from each bridge's node that is reached, no deeper than this
  pub way_down : (most x : ℕ) → IsBridgeNode bridges lans x → 0 < get_or depths x 0 → get_or depths x 0 ≤ most → HasWay x
  way_down zero x on reached low = absurd (omega arith)
  way_down (suc most) x on reached low = elim (tree.leads x reached) [
    | inl e ↦ from_root x e
    | inr l ↦ elim l.1.joins [
      | inl j ↦ by_lan most x (way_down most) (omega arith) l.0 l.1 j.0 j.1
      | inr j ↦ absurd (apart on.0 l.0 on.1 l.1.below (on.2 ∙ sym j.0))
    ]
  ]

-- ---- by names
module _ (ports : List PortInView) (bridges lans : List ℕ) (count : ℕ) (n : AreNodesOf ports bridges lans count) (depths : List ℕ) (last : ℕ) (last_below : last < length ports) (t : IsTree bridges lans (get_or bridges last 0) depths) where
  abbrev Ports : List LogicalPort
  Ports = map named_port ports

  in_bridges : (i : ℕ) → i < length ports → i < length bridges
  in_bridges i h = subst (λ k. i < k) (sym n.for_each) h

  -- no way is shorter than the depth of its first bridge says
  deep_back : (hops : List Hop) (a : List ℕ) → IsWay Ports a (bridge_at ports last) hops → (i : ℕ) → i < length ports → bridge_at ports i ≡ a → (0 < get_or depths (get_or bridges i 0) 0) × (get_or depths (get_or bridges i 0) 0 ≤ 2 * length hops + 1)
  deep_back [] a w i h e =
      let same : get_or bridges i 0 ≡ get_or bridges last 0 = (n.one_bridge i last h last_below).1 (e ∙ w) in
      let at_root : get_or depths (get_or bridges i 0) 0 ≡ get_or depths (get_or bridges last 0) 0 = ap (λ x. get_or depths x 0) same in
      let first = t.first in
      (omega arith, omega arith)
  deep_back (k ∷ hops) a w i h e =
      let from = place_of ports k.leaving w.0.leaves in
      let onto = place_of ports k.arriving w.0.arrives in
      let rest = deep_back hops k.arriving.name.bridge w.2 onto.place onto.below (sym onto.names.bridge) in
      let on_lan = t.reaches (get_or bridges onto.place 0) onto.place (in_bridges onto.place onto.below, inl refl) rest.0 (get_or lans onto.place 0) (inl (refl, refl)) in
      let same_lan : get_or lans onto.place 0 ≡ get_or lans from.place 0 = (n.one_lan onto.place from.place onto.below from.below).1 (sym onto.names.lan ∙ sym w.0.one_lan ∙ from.names.lan) in
      let lan_reached = subst (λ x. (0 < get_or depths x 0) × (get_or depths x 0 ≤ get_or depths (get_or bridges onto.place 0) 0 + 1)) same_lan on_lan in
      let on_bridge = t.reaches (get_or lans from.place 0) from.place (in_bridges from.place from.below, inr refl) lan_reached.0 (get_or bridges from.place 0) (inr (refl, refl)) in
      let same : get_or bridges from.place 0 ≡ get_or bridges i 0 = (n.one_bridge from.place i from.below h).1 (sym from.names.bridge ∙ w.1 ∙ sym e) in
      let there = subst (λ x. (0 < get_or depths x 0) × (get_or depths x 0 ≤ get_or depths (get_or lans from.place 0) 0 + 1)) same on_bridge in
      let a = rest.1 in
      let b = lan_reached.1 in
      let c = there.1 in
      (there.0, omega arith)

  -- a way of just as many hops, where the node is reached
  pub record HasWayOf (i hops : ℕ) : Type 0 where
    pub by : List Hop
    pub way : IsWay Ports (bridge_at ports i) (bridge_at ports last) by
    pub as_many : length by ≡ hops

  way_of : (d : LogicalPort) (i : ℕ) → i < length ports → 0 < get_or depths (get_or bridges i 0) 0 → (hops : ℕ) × (get_or depths (get_or bridges i 0) 0 ≡ 2 * hops + 1) × HasWayOf i hops
  way_of d i h reached =
      let w = way_down bridges lans depths (get_or bridges last 0) n.apart (last, in_bridges last last_below, refl) t (get_or depths (get_or bridges i 0) 0) (get_or bridges i 0) (i, in_bridges i h, refl) reached (omega arith) in
      let from = at ports bridges lans count n d i (in_bridges i h) in
      let onto = at ports bridges lans count n d last (in_bridges last last_below) in
      let named = way_named ports bridges lans count n d w.hops (get_or bridges i 0) (get_or bridges last 0) i last (in_bridges i h) (in_bridges last last_below) refl refl w.way in (
        length w.hops,
        w.deep,
        record {
          by = map (hop_at ports bridges lans count n d) w.hops;
          way = subst (λ a. IsWay Ports a (bridge_at ports last) (map (hop_at ports bridges lans count n d) w.hops)) from.bridge
              (subst (λ b. IsWay Ports (get_or Ports i d).name.bridge b (map (hop_at ports bridges lans count n d) w.hops)) onto.bridge named);
          as_many = length-map w.hops (hop_at ports bridges lans count n d);
        },
      )

  -- what is counted from the depth of a node
  not_reached : (depth : ℕ) → depth ≡ 0 → None ≡ hops_at depth
  not_reached depth e = ap hops_at (sym e)

  reached_at : (depth hops : ℕ) → depth ≡ 2 * hops + 1 → Some hops ≡ hops_at depth
  reached_at zero hops e = absurd (omega arith)
  reached_at (suc m) hops e =
      let half : hops ≡ (suc m - 1) / 2 = omega arith in
      ap Some half ∙ ap (λ (none : Bool). if none then None else Some ((suc m - 1) / 2)) (sym (eqb-suc-zero m))

  pub counted_at : (i : ℕ) → i < length ports → IsHopCount Ports (bridge_at ports i) (bridge_at ports last) (hops_at (get_or depths (get_or bridges i 0) 0))
  counted_at i h = go (get_or depths (get_or bridges i 0) 0) refl (path_over Ports (bridge_at ports i) (bridge_at ports last))
    where
      a : List ℕ
      a = bridge_at ports i

      b : List ℕ
      b = bridge_at ports last

      by_way : (depth : ℕ) → get_or depths (get_or bridges i 0) 0 ≡ depth → (hops : List Hop) → IsFirstPath Ports a b hops → (k : ℕ) → depth ≡ 2 * k + 1 → HasWayOf i k → IsHopCount Ports a b (hops_at depth)
      by_way depth e hops first k deep w =
          let low = (deep_back hops a first.path.way i h refl).1 in
          let short : length hops ≤ k = elim (path_or_less Ports b w.by a w.way) [
            | inl p ↦ (let l = fewest Ports b a hops w.by first p in let m = w.as_many in omega arith)
            | inr q ↦ (let l = fewest Ports b a hops q.hops first q.path in let m = w.as_many in let s = q.less in omega arith)
          ] in
          let same : k ≡ length hops = omega arith in
          record { path = Some hops; is_path = first; are = sym (reached_at depth k deep) ∙ ap Some same }

      go : (depth : ℕ) → get_or depths (get_or bridges i 0) 0 ≡ depth → (path : Option (List Hop)) × IsPathOver Ports a b path → IsHopCount Ports a b (hops_at depth)
      go zero e (None, none) = record { path = None; is_path = none; are = refl }
      go zero e (Some hops, first) = absurd (none_reached ports bridges lans count n depths last last_below t i a b h refl refl e hops first.path)
      go (suc depth) e (None, none) =
          let w = way_of (some_port ports last last_below) i h (omega arith) in
          absurd (elim (path_or_less Ports b w.2.by a w.2.way) [ inl p ↦ none w.2.by p | inr q ↦ none q.hops q.path ])
      go (suc depth) e (Some hops, first) = let w = way_of (some_port ports last last_below) i h (omega arith) in by_way (suc depth) e hops first w.0 (sym e ∙ w.1) w.2
