-- Nodes are bridges and then LANs.
use Rattle.std.proofs.Common.{◌≡◌, List, [], ◌∷◌, ◌++◌, map, filter_map, refl, ap, ◌∙◌}
use Rattle.std.specs.List.{Contains}
use Rattle.mst_graph.specs.Groups.{IsThinned, nothing, kept, left_out}
use Rattle.mst_graph.proofs.Members.{here, there}
use Rattle.mst_graph.specs.Walks.{Node, bridge_at, lan_at}
use Rattle.mst_graph.specs.Islands.{nodes}
use Rattle.mst_graph.specs.Split.{bridge_in, lan_in}

module _ {N L : Type 0} where
  lans_only : (lans : List L) (group : List (Node N L)) → IsThinned group (map lan_at lans) → (filter_map bridge_in group ≡ []) × (map lan_at (filter_map lan_in group) ≡ group)
  lans_only [] [] nothing = (refl, refl)
  lans_only [] (_ ∷ group) t = elim t [ ]
  lans_only (n ∷ lans) (_ ∷ group) (kept t) = let r = lans_only lans group t in (r.0, ap (λ x. lan_at n ∷ x) r.1)
  lans_only (n ∷ lans) group (left_out t) = lans_only lans group t

  -- nodes that are thinned of bridges and LANs stay as they are when they are split
  pub split_back : (bridges : List N) (lans : List L) (group : List (Node N L)) → IsThinned group (nodes bridges lans) → nodes (filter_map bridge_in group) (filter_map lan_in group) ≡ group
  split_back [] lans group t = let r = lans_only lans group t in ap (λ bs. map bridge_at bs ++ map lan_at (filter_map lan_in group)) r.0 ∙ r.1
  split_back (n ∷ bridges) lans (_ ∷ group) (kept t) = ap (λ x. bridge_at n ∷ x) (split_back bridges lans group t)
  split_back (n ∷ bridges) lans group (left_out t) = split_back bridges lans group t

-- a function that keeps each element keeps the list
pub kept_each : {V : Type 0} {A : Type 0} (f g : V → A) (vs : List V) → ((v : V) → Contains vs v → f v ≡ g v) → map f vs ≡ map g vs
kept_each f g [] same = refl
kept_each f g (v ∷ vs) same = ap (λ x. x ∷ map f vs) (same v (here v vs)) ∙ ap (λ xs. g v ∷ xs) (kept_each f g vs (λ w h. same w (there v w vs h)))

-- a function of each element of a list that is made from another
pub map_of_map : {X Y Z : Type 0} (f : Y → Z) (g : X → Y) (xs : List X) → map f (map g xs) ≡ map (λ x. f (g x)) xs
map_of_map f g [] = refl
map_of_map f g (x ∷ xs) = ap (λ ys. f (g x) ∷ ys) (map_of_map f g xs)
