-- There is a list of islands.
use Rattle.std.proofs.Common.{◌≡◌, ℕ, zero, suc, ◌+◌, inl, nat_eq, List, [], ◌∷◌, ◌++◌, length, map, refl, sym, ap, subst, arith}
use Rattle.std.specs.Cmp.{nat_eq_equiv, on_equiv}
use Rattle.std.specs.List.{Contains}
use Rattle.std.proofs.lemmas.List.{append-nil, append_assoc}
use Rattle.std.proofs.lemmas.List.Elements.{All-contains, Contains-append_left}
use Rattle.mst_graph.specs.Groups.{AreGroups}
use Rattle.mst_graph.proofs.Exists.{has_groups}
use Rattle.mst_graph.specs.Walks.{Node, bridge_at, lan_at}
use Rattle.mst_graph.specs.Islands.{Link, Island, nodes, members, AreJoined, AreIslands, HaveEnds}
use Rattle.mst_graph.specs.Labelling.{IsPlaced, label_of, AreLabels, HavePlaces}
use Rattle.mst_graph.proofs.Joins.{have_places, joined_groups, split_groups}
use Rattle.mst_graph.proofs.Labelled.{none_labelled, more_labelled}
use Rattle.mst_graph.proofs.OneList.{island_with}
use Rattle.mst_graph.proofs.Own.{Own, none_own, one_own}
use Rattle.mst_graph.proofs.Parents.{after_merge, merged}
use Rattle.mst_graph.proofs.Splits.{map_of_map}

-- a label for each place
record Labels (count : ℕ) : Type 0 where
  labels : List ℕ
  own : Own count labels

own_labels : (count : ℕ) → Labels count
own_labels zero = record { labels = []; own = none_own }
own_labels (suc n) =
    let before = own_labels n in
    let more : n + 1 ≡ suc n = omega arith in
    subst Labels more (record { labels = _; own = one_own n before.labels before.own })

module _ (bridges lans : List ℕ) where
  record Found (links : List (Link ℕ ℕ)) : Type 0 where
    labels : List ℕ
    found : AreLabels bridges lans links labels

  start : Found []
  start =
      let l = own_labels (length bridges + length lans) in
      record { labels = l.labels; found = none_labelled bridges lans l.labels l.own.as_long l.own.own }

  go_on : (links rest : List (Link ℕ ℕ)) → HavePlaces bridges lans (links ++ rest) → Found links → Found (links ++ rest)
  go_on links [] placed f = subst Found (sym (append-nil links)) f
  go_on links (k ∷ rest) placed f =
      let few = label_of bridges lans f.labels (bridge_at k.bridge) in
      let many = label_of bridges lans f.labels (lan_at k.lan) in
      let next = more_labelled bridges lans links k f.labels (after_merge few many f.labels) f.found
      (λ j h. All-contains (λ (k : Link ℕ ℕ). IsPlaced bridges lans (bridge_at k.bridge) × IsPlaced bridges lans (lan_at k.lan)) (links ++ k ∷ rest) j placed
      (subst (λ ks. Contains ks j) (append_assoc links (k ∷ []) rest) (Contains-append_left (links ++ k ∷ []) rest j h)))
      few many (merged few many f.labels) (inl (refl, refl)) in
      subst Found (append_assoc links (k ∷ []) rest)
      (go_on (links ++ k ∷ []) rest (subst (HavePlaces bridges lans) (sym (append_assoc links (k ∷ []) rest)) placed) (record { labels = after_merge few many f.labels; found = next }))

  pub has_islands : (links : List (Link ℕ ℕ)) → HaveEnds bridges lans links → (islands : List (Island ℕ ℕ)) × AreIslands bridges lans links islands
  has_islands links have =
      let f = go_on [] links (have_places bridges lans bridges lans (λ n h. h) (λ n h. h) links have) start in
      let label : Node ℕ ℕ → ℕ = label_of bridges lans f.labels in
      let g = has_groups (λ a b. nat_eq (label a) (label b)) (on_equiv label nat_eq_equiv) (nodes bridges lans) in
      let joined = joined_groups bridges lans bridges lans (λ n h. h) (λ n h. h) links f.labels g.0 f.found g.1 in (
        map (island_with ℕ ℕ) g.0,
        split_groups (λ ns. ns) bridges lans links g.0 (map (island_with ℕ ℕ) g.0) (subst (AreGroups (AreJoined links) (nodes bridges lans)) (sym (same_lists g.0)) joined) (map_of_map members (island_with ℕ ℕ) g.0),
      )
    where
      same_lists : {A : Type 0} (xs : List A) → map (λ x. x) xs ≡ xs
      same_lists [] = refl
      same_lists (x ∷ xs) = ap (λ ys. x ∷ ys) (same_lists xs)
