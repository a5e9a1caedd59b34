-- There is at most one list of islands.
use Rattle.std.proofs.Common.{◌≡◌, inl, inr, List, [], ◌∷◌, map, filter_map, refl, sym, ap, subst, ◌∙◌}
use Rattle.std.specs.List.{Contains}
use Rattle.std.proofs.lemmas.List.Elements.{Contains-append_cases}
use Rattle.mst_graph.specs.Groups.{StandOnce}
use Rattle.mst_graph.proofs.Members.{from_map}
use Rattle.mst_graph.proofs.Unique as unique
use Rattle.mst_graph.specs.Walks.{Node, bridge_at, lan_at}
use Rattle.mst_graph.specs.Islands.{Link, Island, AreJoined, nodes, members, AreIslands}
use Rattle.mst_graph.specs.Split.{bridge_in, lan_in}

module _ (N L : Type 0) where
  abbrev bridge_of : N → Node N L → N
  bridge_of d (bridge_at n) = n
  bridge_of d (lan_at n) = d

  abbrev lan_of : L → Node N L → L
  lan_of d (bridge_at n) = d
  lan_of d (lan_at n) = n

  lans_once : (lans : List L) → StandOnce lans → StandOnce (map (λ n. let a : Node N L = lan_at n in a) lans)
  lans_once [] once = tt
  lans_once (n ∷ lans) once =
      (λ h. let r = from_map (λ n. let a : Node N L = lan_at n in a) lans (lan_at n) h in once.0 (subst (Contains lans) (ap (lan_of n) r.2) r.1), lans_once lans once.1)

  nodes_once : (bridges : List N) (lans : List L) → StandOnce bridges → StandOnce lans → StandOnce (nodes bridges lans)
  nodes_once [] lans once lans_differ = lans_once lans lans_differ
  nodes_once (n ∷ bridges) lans once lans_differ = (
    λ h. elim (Contains-append_cases (map (λ n. let a : Node N L = bridge_at n in a) bridges) (map (λ n. let a : Node N L = lan_at n in a) lans) (bridge_at n) h) [
      | inl x ↦ let r = from_map (λ n. let a : Node N L = bridge_at n in a) bridges (bridge_at n) x in once.0 (subst (Contains bridges) (ap (bridge_of n) r.2) r.1)
      | inr x ↦ let r = from_map (λ n. let a : Node N L = lan_at n in a) lans (bridge_at n) x in apart r.0 n r.2
    ],
    nodes_once bridges lans once.1 lans_differ,
  )
    where
      apart : (m : L) (k : N) → (let a : Node N L = lan_at m in a) ≡ bridge_at k → ⊥
      apart m k e = cc

  lans_of_lans : (lans : List L) → (filter_map (bridge_in {N = N} {L = L}) (map lan_at lans) ≡ []) × (filter_map (lan_in {N = N} {L = L}) (map lan_at lans) ≡ lans)
  lans_of_lans [] = (refl, refl)
  lans_of_lans (n ∷ lans) = let r = lans_of_lans lans in (r.0, ap (λ xs. n ∷ xs) r.1)

  parts_of : (bridges : List N) (lans : List L) → (filter_map bridge_in (nodes bridges lans) ≡ bridges) × (filter_map lan_in (nodes bridges lans) ≡ lans)
  parts_of [] lans = lans_of_lans lans
  parts_of (n ∷ bridges) lans = let r = parts_of bridges lans in (ap (λ xs. n ∷ xs) r.0, r.1)

  -- the island of nodes
  abbrev pub island_with : List (Node N L) → Island N L
  island_with ns = record { bridges = filter_map bridge_in ns; lans = filter_map lan_in ns }

  island_back : (i : Island N L) → island_with (members i) ≡ i
  island_back i =
      let r = parts_of i.bridges i.lans in
      let first : island_with (members i) ≡ record { bridges = i.bridges; lans = filter_map lan_in (members i) } = ap (λ (bs : List N). let j : Island N L = record { bridges = bs; lans = filter_map lan_in (members i) } in j) r.0 in
      let second : record { bridges = i.bridges; lans = filter_map lan_in (members i) } ≡ i = ap (λ (ls : List L). let j : Island N L = record { bridges = i.bridges; lans = ls } in j) r.1 in
      first ∙ second

  islands_back : (islands : List (Island N L)) → map island_with (map members islands) ≡ islands
  islands_back [] = refl
  islands_back (i ∷ islands) = ap (λ j. j ∷ map island_with (map members islands)) (island_back i) ∙ ap (λ js. i ∷ js) (islands_back islands)

  pub one_islands : (bridges : List N) (lans : List L) (links : List (Link N L)) (islands others : List (Island N L)) → StandOnce bridges → StandOnce lans
      → AreIslands bridges lans links islands → AreIslands bridges lans links others → islands ≡ others
  one_islands bridges lans links islands others bridges_once lans_differ a b =
      sym (islands_back islands)
      ∙ ap (map island_with) (unique.one_list (AreJoined links) (nodes bridges lans) (nodes_once bridges lans bridges_once lans_differ) (map members islands) (map members others) a b)
      ∙ islands_back others
