-- Labels of nodes that are equal just where links join the nodes.
use Rattle.std.specs.Prelude.{◌≡◌, ◌+◌, ℕ, true, List, length, nat_eq, slice_index}
use Rattle.std.specs.List.{All, Contains, list_any, position_or_len}
use Rattle.mst_graph.specs.Walks.{Node, bridge_at, lan_at}
use Rattle.mst_graph.specs.Islands.{Link, AreJoined}

module _ (bridges lans : List ℕ) where
  -- the node is one of these
  abbrev pub IsPlaced : Node ℕ ℕ → Type 0
  IsPlaced (bridge_at n) = list_any (nat_eq n) bridges ≡ true
  IsPlaced (lan_at n) = list_any (nat_eq n) lans ≡ true

  -- its place: bridges come first
  abbrev pub place_of : Node ℕ ℕ → ℕ
  place_of (bridge_at n) = position_or_len (nat_eq n) bridges
  place_of (lan_at n) = length bridges + position_or_len (nat_eq n) lans

  -- the label of its place
  abbrev pub label_of : List ℕ → Node ℕ ℕ → ℕ
  label_of labels node = slice_index labels (place_of node)

  -- both ends of each link are placed
  abbrev pub HavePlaces : List (Link ℕ ℕ) → Type 0
  HavePlaces links = All (λ (k : Link ℕ ℕ). IsPlaced (bridge_at k.bridge) × IsPlaced (lan_at k.lan)) links

  pub record AreLabels (links : List (Link ℕ ℕ)) (labels : List ℕ) : Type 0 where
    pub as_long : length labels ≡ length bridges + length lans
    pub joins : (link : Link ℕ ℕ) → Contains links link → label_of labels (bridge_at link.bridge) ≡ label_of labels (lan_at link.lan)
    pub only : (a b : Node ℕ ℕ) → IsPlaced a → IsPlaced b → label_of labels a ≡ label_of labels b → AreJoined links a b
