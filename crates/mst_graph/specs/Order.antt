-- The order of islands: those with a bridge first, by their first bridges, and then the others, by their first LANs.
use Rattle.std.specs.Prelude.{◌≡◌, List, [], ◌++◌, map}
use Rattle.std.specs.List.{All}
use Rattle.mst_graph.specs.Groups.{IsThinned, BeginWith}
use Rattle.mst_graph.specs.Islands.{Island}

pub record AreInOrder {N L : Type 0} (bridges : List N) (lans : List L) (islands : List (Island N L)) : Type 0 where
  pub with_bridge : List (Island N L)
  pub without : List (Island N L)
  pub all : islands ≡ with_bridge ++ without
  -- each of the former begins with a bridge, and these come in their order
  pub first_bridges : List N
  pub begin_with_bridges : BeginWith first_bridges (map (λ (i : Island N L). i.bridges) with_bridge)
  pub by_bridges : IsThinned first_bridges bridges
  -- the latter have no bridge, and their first LANs come in their order
  pub no_bridge : All (λ (i : Island N L). i.bridges ≡ []) without
  pub first_lans : List L
  pub begin_with_lans : BeginWith first_lans (map (λ (i : Island N L). i.lans) without)
  pub by_lans : IsThinned first_lans lans
