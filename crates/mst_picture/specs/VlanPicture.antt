-- The picture of a network with a VLAN: a text for Graphviz.
use Rattle.std.specs.Prelude.{◌≡◌, ℕ, suc, Bool, List, [], ◌∷◌, ◌++◌, filter, codes, decimal, if◌then◌else◌}
use Rattle.std.specs.List.{flat_map}
use Rattle.std.specs.Option.{option_map_or}
use Rattle.std.specs.FinMap as fin
use Rattle.mst_tables.specs.Tables.{Net}
use Rattle.mst_graph.specs.Lists.{has_any}
use Rattle.mst_roles.specs.Roles.{tree_of_vid}
use Rattle.mst_roles.specs.forest.Outcome.{Outcome}
use Rattle.mst_graph.specs.Islands.{Island}
use Rattle.mst_summary.specs.vlan.Reach.{AreIslandsOf}
use Rattle.mst_picture.specs.Bridges.{is_root, off_text}
use Rattle.mst_picture.specs.Lans.{lans_text}
use Rattle.mst_picture.specs.Picture.{opening, closing}
use Rattle.mst_picture.specs.Pieces.{joined}
use Rattle.mst_picture.specs.declared.ends.Drawn.TheVariants.{Vlan}

-- ---- bridges
-- the end of a node's text: two borders for a root
abbrev pub node_end : Bool → List ℕ
node_end is_root = if is_root then codes "\", peripheries=2];\n" else codes "\"];\n"

-- the node of a bridge, with its name and with its tree of the VID: `"B" [label="B\ntree T"];`
abbrev pub node_line : List ℕ → ℕ → Bool → List ℕ
node_line name tree is_root = joined (codes "    \"" ∷ name ∷ codes "\" [label=\"" ∷ name ∷ codes "\\ntree " ∷ decimal tree ∷ node_end is_root ∷ [])

-- the node of a bridge of the network, by its name. It is a root where it is that of its own tree of the VID, in an MSTI the
-- regional root
abbrev pub node_text : Net → Outcome → ℕ → List ℕ → List ℕ
node_text net o vid name = option_map_or (λ row. node_line name (tree_of_vid net name vid) (is_root net o (tree_of_vid net name vid) (name, row))) (fin.get net.bridges name) []

-- ---- islands
-- the text of each of these things, which are numbered from a number on
abbrev pub numbered : {A : Type 0} → (ℕ → A → List ℕ) → ℕ → List A → List ℕ
numbered text number [] = []
numbered text number (x ∷ xs) = text number x ++ numbered text (suc number) xs

-- an island is a cluster of its bridges
abbrev pub cluster_opening : ℕ → List ℕ
cluster_opening number = joined (codes "  subgraph \"cluster " ∷ decimal number ∷ codes "\" {\n" ∷ [])

abbrev pub cluster_closing : List ℕ
cluster_closing = codes "  }\n"

abbrev pub cluster : Net → Outcome → ℕ → ℕ → Island (List ℕ) (List ℕ) → List ℕ
cluster net o vid number island = cluster_opening number ++ flat_map (node_text net o vid) island.bridges ++ cluster_closing

-- the clusters of the islands that have a bridge, numbered from 1 on
abbrev pub clusters : Net → Outcome → ℕ → List (Island (List ℕ) (List ℕ)) → List ℕ
clusters net o vid islands = numbered (cluster net o vid) 1 (filter (λ i. has_any i.bridges) islands)

-- ---- the picture
-- the islands with their bridges, the bridges that are off, which are in no island, and the logical LANs
abbrev pub vlan_picture : Net → Outcome → ℕ → List (Island (List ℕ) (List ℕ)) → List ℕ
vlan_picture net o vid islands =
    opening (codes "vlan ") vid ++ clusters net o vid islands ++ flat_map off_text (fin.entries net.bridges) ++ lans_text net o (Vlan vid) ++ closing

-- this text is the picture of the network with the VLAN
pub record IsVlanPicture (net : Net) (o : Outcome) (vid : ℕ) (text : List ℕ) : Type 0 where
  pub islands : List (Island (List ℕ) (List ℕ))
  pub are_islands : AreIslandsOf net o vid islands
  pub is : text ≡ vlan_picture net o vid islands
