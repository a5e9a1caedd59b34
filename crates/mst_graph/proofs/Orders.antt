-- Islands with a bridge come first.
use Rattle.std.proofs.Common.{◌≡◌, List, [], ◌∷◌, ◌++◌, map, filter_map, refl, sym, ap, subst}
use Rattle.std.specs.List.{All}
use Rattle.std.proofs.lemmas.List.Elements.{All-nil, All-cons}
use Rattle.mst_graph.specs.Groups.{IsThinned, nothing, kept, left_out, BeginWith, no_groups, one_more}
use Rattle.mst_graph.specs.Walks.{Node, bridge_at, lan_at}
use Rattle.mst_graph.specs.Islands.{Link, Island, nodes, members, AreIslands}
use Rattle.mst_graph.specs.Order.{AreInOrder}
use Rattle.mst_graph.specs.Split.{bridge_in, lan_in}
use Rattle.mst_graph.proofs.Splits.{split_back}

module _ {N L : Type 0} where
  -- the bridges and the LANs of a thinning are thinned
  lans_thinned : (lans : List L) (group : List (Node N L)) → IsThinned group (map lan_at lans) → (filter_map bridge_in group ≡ []) × IsThinned (filter_map lan_in group) lans
  lans_thinned [] [] nothing = (refl, nothing)
  lans_thinned [] (_ ∷ group) t = elim t [ ]
  lans_thinned (n ∷ lans) (_ ∷ group) (kept t) = let r = lans_thinned lans group t in (r.0, kept r.1)
  lans_thinned (n ∷ lans) group (left_out t) = let r = lans_thinned lans group t in (r.0, left_out r.1)

  both_thinned : (bridges : List N) (lans : List L) (group : List (Node N L)) → IsThinned group (nodes bridges lans) → IsThinned (filter_map bridge_in group) bridges × IsThinned (filter_map lan_in group) lans
  both_thinned [] lans group t = let r = lans_thinned lans group t in (subst (λ xs. IsThinned xs []) (sym r.0) nothing, r.1)
  both_thinned (n ∷ bridges) lans (_ ∷ group) (kept t) = let r = both_thinned bridges lans group t in (kept r.0, r.1)
  both_thinned (n ∷ bridges) lans group (left_out t) = let r = both_thinned bridges lans group t in (left_out r.0, r.1)

  -- what a first group begins with
  record Begins (x : Node N L) (xs : List (Node N L)) (group : List (Node N L)) (groups : List (List (Node N L))) : Type 0 where
    rest : List (Node N L)
    is : group ≡ x ∷ rest
    others : BeginWith xs groups

  begins : (x : Node N L) (xs : List (Node N L)) (group : List (Node N L)) (groups : List (List (Node N L))) → BeginWith (x ∷ xs) (group ∷ groups) → Begins x xs group groups
  begins x xs (_ ∷ _) groups (one_more {rest = rest} b) = record { rest = rest; is = refl; others = b }
  begins x xs [] groups b = elim b [ ]

  abbrev bridge_or : N → Node N L → N
  bridge_or d (bridge_at n) = n
  bridge_or d (lan_at n) = d

  abbrev lan_or : L → Node N L → L
  lan_or d (bridge_at n) = d
  lan_or d (lan_at n) = n

  -- an island whose first member is a bridge, or a LAN
  first_bridge : (n : N) (bridges : List N) (lans : List L) (rest : List (Node N L)) → nodes bridges lans ≡ bridge_at n ∷ rest → (more : List N) × (bridges ≡ n ∷ more)
  first_bridge n [] [] rest e = cc
  first_bridge n [] (m ∷ lans) rest e = cc
  first_bridge n (m ∷ bridges) lans rest e =
      let same : (let a : Node N L = bridge_at m in a) ≡ bridge_at n = cc in
      (bridges, ap (λ k. k ∷ bridges) (same_bridge m n same))
    where
      same_bridge : (m k : N) → (let a : Node N L = bridge_at m in a) ≡ bridge_at k → m ≡ k
      same_bridge m k e = ap (bridge_or m) e

  first_lan : (n : L) (bridges : List N) (lans : List L) (rest : List (Node N L)) → nodes bridges lans ≡ lan_at n ∷ rest → (bridges ≡ []) × ((more : List L) × (lans ≡ n ∷ more))
  first_lan n [] [] rest e = cc
  first_lan n [] (m ∷ lans) rest e =
      let same : (let a : Node N L = lan_at m in a) ≡ lan_at n = cc in
      (refl, (lans, ap (λ k. k ∷ lans) (same_lan m n same)))
    where
      same_lan : (m k : L) → (let a : Node N L = lan_at m in a) ≡ lan_at k → m ≡ k
      same_lan m k e = ap (lan_or m) e
  first_lan n (m ∷ bridges) lans rest e = cc

  without_bridges : (firsts : List L) (islands : List (Island N L)) → BeginWith (map lan_at firsts) (map members islands)
      → All (λ (i : Island N L). i.bridges ≡ []) islands × BeginWith firsts (map (λ (i : Island N L). i.lans) islands)
  without_bridges [] [] no_groups = (All-nil (λ (i : Island N L). i.bridges ≡ []), no_groups)
  without_bridges [] (i ∷ islands) b = elim b [ ]
  without_bridges (n ∷ firsts) [] b = elim b [ ]
  without_bridges (n ∷ firsts) (i ∷ islands) b =
      let s = begins (lan_at n) (map lan_at firsts) (members i) (map members islands) b in
      let f = first_lan n i.bridges i.lans s.rest s.is in
      let r = without_bridges firsts islands s.others in (
        All-cons (λ (i : Island N L). i.bridges ≡ []) i islands f.0 r.0,
        subst (λ ls. BeginWith (n ∷ firsts) (ls ∷ map (λ (i : Island N L). i.lans) islands)) (sym f.1.1) (one_more r.1),
      )

  -- the islands in two parts
  record Parts (first_bridges : List N) (first_lans : List L) (islands : List (Island N L)) : Type 0 where
    with_bridge : List (Island N L)
    without : List (Island N L)
    all : islands ≡ with_bridge ++ without
    begin_with_bridges : BeginWith first_bridges (map (λ (i : Island N L). i.bridges) with_bridge)
    no_bridge : All (λ (i : Island N L). i.bridges ≡ []) without
    begin_with_lans : BeginWith first_lans (map (λ (i : Island N L). i.lans) without)

  parts : (first_bridges : List N) (first_lans : List L) (islands : List (Island N L)) → BeginWith (nodes first_bridges first_lans) (map members islands) → Parts first_bridges first_lans islands
  parts [] first_lans islands b =
      let r = without_bridges first_lans islands b in
      record { with_bridge = []; without = islands; all = refl; begin_with_bridges = no_groups; no_bridge = r.0; begin_with_lans = r.1 }
  parts (n ∷ first_bridges) first_lans [] b = elim b [ ]
  parts (n ∷ first_bridges) first_lans (i ∷ islands) b =
      let s = begins (bridge_at n) (nodes first_bridges first_lans) (members i) (map members islands) b in
      let f = first_bridge n i.bridges i.lans s.rest s.is in
      let r = parts first_bridges first_lans islands s.others in
      record {
        with_bridge = i ∷ r.with_bridge;
        without = r.without;
        all = ap (λ is. i ∷ is) r.all;
        begin_with_bridges = subst (λ bs. BeginWith (n ∷ first_bridges) (bs ∷ map (λ (i : Island N L). i.bridges) r.with_bridge)) (sym f.1) (one_more r.begin_with_bridges);
        no_bridge = r.no_bridge;
        begin_with_lans = r.begin_with_lans;
      }

  pub islands_in_order : (bridges : List N) (lans : List L) (links : List (Link N L)) (islands : List (Island N L)) → AreIslands bridges lans links islands → AreInOrder bridges lans islands
  islands_in_order bridges lans links islands a =
      let t = both_thinned bridges lans a.firsts a.by_firsts in
      let p = parts (filter_map bridge_in a.firsts) (filter_map lan_in a.firsts) islands
      (subst (λ fs. BeginWith fs (map members islands)) (sym (split_back bridges lans a.firsts a.by_firsts)) a.begin_with) in
      record {
        with_bridge = p.with_bridge;
        without = p.without;
        all = p.all;
        first_bridges = filter_map bridge_in a.firsts;
        begin_with_bridges = p.begin_with_bridges;
        by_bridges = t.0;
        no_bridge = p.no_bridge;
        first_lans = filter_map lan_in a.firsts;
        begin_with_lans = p.begin_with_lans;
        by_lans = t.1;
      }
