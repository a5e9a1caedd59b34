-- What is seen of a summary in the view of a settled network.
use Rattle.std.specs.Prelude.{ℕ, ◌&&◌, ◌++◌, Bool, List, [], ◌∷◌, filter, length, map}
use Rattle.std.specs.List.{count_by, flat_map, list_any}
use Rattle.mst_ids.specs.declared.name.PortName.{PortName}
use Rattle.mst_rows.specs.Rows.{Row}
use Rattle.mst_tables.specs.ByTree.{by_tree}
use Rattle.mst_tables.specs.Seen.{bridge_row}
use Rattle.mst_view.specs.Aggregation.{same_name}
use Rattle.mst_view.specs.Viewed.{Viewed, named_port}
use Rattle.mst_view.specs.declared.in_view.BridgeInView.{BridgeInView}
use Rattle.mst_view.specs.declared.in_view.PortInView.{PortInView}
use Rattle.mst_vlan.specs.forest.Forest.{Forest}
use Rattle.mst_vlan.specs.forest.InUse.{id_in, seen_has}
use Rattle.mst_vlan.specs.forest.Settled.{SettledNet, outcome_of}
use Rattle.mst_vlan.specs.roles.SeenRoles.{seen_forwards}
use Rattle.mst_vlan.specs.Seen.{seen_member}
use Rattle.mst_vlan.specs.declared.island.Island.{Island}
use Rattle.mst_vlan.specs.forest.AllTrees.{all_trees}
use Rattle.mst_graph.specs.Lists.{has_any}
use Rattle.mst_slips.specs.Seen.{seen_first}
use Rattle.mst_summary.specs.declared.roots.Follower.{Follower}
use Rattle.mst_summary.specs.declared.counts.Counts.{Counts}
use Rattle.mst_summary.specs.Blocked.{is_blocked, blocked_row}
use Rattle.mst_summary.specs.Roots.{followers, rows_of_root}
use Rattle.mst_summary.specs.Carries.{are_of_two}

-- ---- counts
-- some bridge has the tree
abbrev pub seen_used : Viewed → ℕ → Bool
seen_used v tree = list_any (λ b. seen_has v tree b.bridge.number) v.bridges

abbrev pub seen_trees : Viewed → List ℕ
seen_trees v = filter (seen_used v) all_trees

abbrev pub seen_counts : Viewed → List (ℕ × ℕ) → List ℕ → Counts
seen_counts v classes trees = record {
  bridges = length v.bridges;
  on = count_by (λ b. (bridge_row b.bridge).is_on) v.bridges;
  ports = length v.ports;
  enabled = count_by (λ p. p.is_enabled) v.ports;
  regions = count_by (seen_first classes) v.bridges;
  trees = length trees;
}

-- ---- roots
abbrev pub seen_root : SettledNet → ℕ → List Follower → BridgeInView → List Row
seen_root s tree all b = rows_of_root (by_tree s.net) tree all b.name (id_in (by_tree s.net) tree b.name (bridge_row b.bridge))

-- ---- ports that block
abbrev pub blocked_of : SettledNet → ℕ → List PortName
blocked_of s tree = map (λ p. p.name) (filter (λ p. is_blocked s.net (outcome_of s) tree (named_port p)) s.view.ports)

-- ---- trees
abbrev pub seen_tree_rows : SettledNet → ℕ → List Row
seen_tree_rows s tree = flat_map (seen_root s tree (followers s.net (outcome_of s) tree)) s.view.bridges ++ blocked_row tree (blocked_of s tree) ∷ []

-- ---- islands that have a bridge
abbrev pub seen_with_bridge : List Island → ℕ
seen_with_bridge islands = count_by (λ i. has_any i.bridges) islands

-- ---- what ports carry
abbrev pub seen_on : Viewed → List ℕ → List PortInView
seen_on v lan = filter (λ p. same_name p.lan lan) v.ports

abbrev pub seen_carries : Viewed → Forest → ℕ → PortInView → Bool
seen_carries v f vid p = seen_forwards v f vid p && seen_member v vid p

-- frames of a VID go over a logical LAN that has these ports
abbrev pub seen_over : Viewed → Forest → List PortInView → ℕ → Bool
seen_over v f ports vid = are_of_two (map named_port (filter (seen_carries v f vid) ports))

-- it joins bridges
abbrev pub seen_joins : List PortInView → Bool
seen_joins ports = are_of_two (map named_port (filter (λ p. p.is_enabled) ports))

-- the logical LANs that are up, and those of them that join bridges
abbrev pub seen_lans_up : Viewed → List (List ℕ)
seen_lans_up v = map (λ l. l.name) (filter (λ l. l.is_up) v.lans)

abbrev pub seen_joining_lans : Viewed → List (List ℕ)
seen_joining_lans v = filter (λ lan. seen_joins (seen_on v lan)) (seen_lans_up v)
