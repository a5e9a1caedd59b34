-- The islands of bridges and LANs that links join. Bridges and LANs go by keys of any types N and L, as names or
-- record numbers.
use Rattle.std.specs.Prelude.{List, ◌++◌, map}
use Rattle.std.specs.List.{All, Contains}
use Rattle.mst_graph.specs.Groups.{AreGroups}
use Rattle.mst_graph.specs.Walks.{Ends, Walk, Node, bridge_at, lan_at}

-- a link between a bridge and a LAN
pub record Link (N L : Type 0) : Type 0 where
  pub bridge : N
  pub lan : L

pub record Island (N L : Type 0) : Type 0 where
  pub bridges : List N
  pub lans : List L

module _ {N L : Type 0} where
  -- a link's ends: its bridge and its LAN
  abbrev pub link_ends : Ends (Node N L) (Link N L)
  link_ends = record { from = λ k. bridge_at k.bridge; to = λ k. lan_at k.lan }

  -- a walk of the links joins two nodes
  abbrev pub AreJoined : List (Link N L) → Node N L → Node N L → Type 0
  AreJoined links a b = Walk link_ends (Contains links) a b

  -- bridges and then LANs
  abbrev pub nodes : List N → List L → List (Node N L)
  nodes bridges lans = map bridge_at bridges ++ map lan_at lans

  abbrev pub members : Island N L → List (Node N L)
  members island = nodes island.bridges island.lans

  -- the islands are the groups of joined bridges and LANs: each is in just one, two are in one just where a walk
  -- joins them, and islands and their members come in the order of the bridges and then the LANs. So islands with
  -- a bridge come first, by their first bridges, and the others after them, by their first LANs
  abbrev pub AreIslands : List N → List L → List (Link N L) → List (Island N L) → Type 0
  AreIslands bridges lans links islands = AreGroups (AreJoined links) (nodes bridges lans) (map members islands)

  -- both ends of each link are among the bridges and the LANs
  abbrev pub HaveEnds : List N → List L → List (Link N L) → Type 0
  HaveEnds bridges lans links = All (λ (k : Link N L). Contains bridges k.bridge × Contains lans k.lan) links
