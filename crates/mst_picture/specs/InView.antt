-- The bridges, ports and logical LANs of a settled network's view in a picture.
use Rattle.std.specs.Prelude.{◌≡◌, ℕ, ◌==◌, ◌<◌, List, [], ◌++◌, filter, length, slice_index_or}
use Rattle.std.specs.List.{Contains, find, flat_map}
use Rattle.std.specs.Option.{option_map_or}
use Rattle.mst_view.specs.Viewed.{named_bridge, named_port}
use Rattle.mst_view.specs.declared.in_view.BridgeInView.{BridgeInView}
use Rattle.mst_view.specs.declared.in_view.LanInView.{LanInView}
use Rattle.mst_view.specs.declared.in_view.PortInView.{PortInView}
use Rattle.mst_tables.specs.Seen.{bridge_row}
use Rattle.mst_graph.specs.Lists.{has_any}
use Rattle.mst_roles.specs.SeenRoles.{seen_tree}
use Rattle.mst_roles.specs.forest.Msti.{has_tree}
use Rattle.mst_roles.specs.forest.Settled.{SettledNet, outcome_of}
use Rattle.mst_summary.specs.vlan.declared.island.Island.{Island}
use Rattle.mst_picture.specs.Bridges.{bridge_line, is_root, off_text, style}
use Rattle.mst_picture.specs.Lans.{end_of, end_in_tree, end_in_vlan, ends_on, lan_text}
use Rattle.mst_picture.specs.VlanPicture.{cluster_closing, cluster_opening, node_line, numbered}
use Rattle.mst_picture.specs.declared.ends.Drawn.{Drawn}
use Rattle.mst_picture.specs.declared.ends.End.{End}

-- each of these, at its place, is one of those
abbrev pub AreAmong : {A : Type 0} → List A → List A → Type 0
AreAmong {A} those these = (x : A) (k : ℕ) → k < length these → x ≡ slice_index_or these k x → Contains those x

-- ---- bridges
abbrev pub style_of : SettledNet → ℕ → BridgeInView → List ℕ
style_of s tree b = style (bridge_row b.bridge).is_on (has_tree s.net tree b.name) (is_root s.net (outcome_of s) tree (named_bridge b))

abbrev pub bridge_of : SettledNet → ℕ → BridgeInView → List ℕ
bridge_of s tree b = bridge_line b.name (style_of s tree b)

abbrev pub off_of : BridgeInView → List ℕ
off_of b = off_text (named_bridge b)

-- ---- islands
abbrev pub node_of : SettledNet → ℕ → BridgeInView → List ℕ
node_of s tree b = node_line b.name tree (is_root s.net (outcome_of s) tree (named_bridge b))

-- the node of the bridge of this number, with its tree of the VID
abbrev pub node_at : SettledNet → ℕ → ℕ → List ℕ
node_at s vid number = option_map_or (node_of s (seen_tree s.view number vid)) (find (λ b. number == b.bridge.number) s.view.bridges) []

abbrev pub cluster_of : SettledNet → ℕ → ℕ → Island → List ℕ
cluster_of s vid number island = cluster_opening number ++ flat_map (node_at s vid) island.bridges ++ cluster_closing

abbrev pub clusters_of : SettledNet → ℕ → List Island → List ℕ
clusters_of s vid islands = numbered (cluster_of s vid) 1 (filter (λ i. has_any i.bridges) islands)

-- ---- logical LANs
abbrev pub tree_end_at : SettledNet → ℕ → PortInView → End
tree_end_at s tree p = end_in_tree s.net (outcome_of s) tree (named_port p)

abbrev pub vlan_end_at : SettledNet → ℕ → PortInView → End
vlan_end_at s vid p = end_in_vlan s.net (outcome_of s) vid (named_port p)

abbrev pub end_at : SettledNet → Drawn → PortInView → End
end_at s drawn p = end_of s.net (outcome_of s) drawn (named_port p)

abbrev pub lan_of : SettledNet → Drawn → LanInView → List ℕ
lan_of s drawn l = lan_text l.name (ends_on s.net (outcome_of s) drawn l.name)
