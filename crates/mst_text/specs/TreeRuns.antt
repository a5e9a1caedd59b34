-- The rows of bridges, each with its run of the ports of a view.
use Rattle.std.specs.Prelude.{ℕ, Bool, List, [], ◌∷◌, ◌++◌, take, drop, if◌then◌else◌}
use Rattle.std.specs.List.{flat_map, prefix_len}
use Rattle.mst_view.specs.Aggregation.{same_name}
use Rattle.mst_view.specs.Viewed.{named_bridge, named_port}
use Rattle.mst_view.specs.declared.in_view.BridgeInView.{BridgeInView}
use Rattle.mst_view.specs.declared.in_view.PortInView.{PortInView}
use Rattle.mst_vlan.specs.forest.Settled.{SettledNet, outcome_of}
use Rattle.mst_rows.specs.Rows.{Row}
use Rattle.mst_vlan.specs.forest.Msti.{has_tree}
use Rattle.mst_text.specs.TreeText.{own_rows, rows_of_port}

-- the row of a port, and the rows of a bridge with these ports, if it has the tree
abbrev pub port_of : SettledNet → ℕ → PortInView → List Row
port_of s tree p = rows_of_port s.net (outcome_of s) tree (named_port p)

abbrev pub bridge_with : SettledNet → ℕ → BridgeInView → List PortInView → List Row
bridge_with s tree b ports = if has_tree s.net tree b.name then own_rows s.net (outcome_of s) tree (named_bridge b) ++ flat_map (port_of s tree) ports else []

-- a port is of the bridge of this name; how many are, from the front on
abbrev pub is_of : List ℕ → PortInView → Bool
is_of bridge p = same_name p.name.bridge bridge

abbrev pub run_of : List ℕ → List PortInView → ℕ
run_of bridge ports = prefix_len (is_of bridge) ports

-- bridges in turn, each with its run of ports at the front of those that are left
abbrev pub by_runs : (BridgeInView → List PortInView → List Row) → List BridgeInView → List PortInView → List Row
by_runs f [] ports = []
by_runs f (b ∷ bs) ports = let n = run_of b.name ports in f b (take n ports) ++ by_runs f bs (drop n ports)
