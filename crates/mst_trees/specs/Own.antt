-- How the settings that ports have in one tree alone are noted.
use Rattle.std.specs.Prelude.{◌≡◌, ℕ, ◌==◌, ◌&&◌, ◌||◌, Bool, not, List, Option, Some, is_some, if◌then◌else◌}
use Rattle.std.specs.BTreeMap.{BTreeMap}
use Rattle.mst_ids.specs.declared.name.PortName.{PortName}
use Rattle.mst_vector.specs.declared.msti.MstiPort.{MstiPort}
use Rattle.mst_forest.specs.topology.Places.{in_map}
use Rattle.mst_net.specs.tables.ByTree.{ByTree, port_priority_in, port_cost_in}
use Rattle.mst_view.specs.Viewed.{Viewed, named_port}
use Rattle.mst_view.specs.declared.in_view.PortInView.{PortInView}
use Rattle.mst_forest.specs.Msti.{msti_port}
use Rattle.mst_trees.specs.Wirings.{own_in}

-- something is set for the port in the tree: a priority other than 8, or a cost
abbrev pub is_set : ByTree → PortName → ℕ → Bool
is_set set port tree = not (port_priority_in set.port_priorities port tree == 8) || is_some (port_cost_in set.port_costs port tree)

-- what a tree has under a number once the settings of a port are noted in the trees that pass a test: these settings
-- under the port's number in such a tree, and else what it had
abbrev pub noted_at : (ℕ → Bool) → Viewed → PortInView → (tree k : ℕ) → Option MstiPort → Option MstiPort
noted_at test v p tree k had = if k == p.number && test tree then Some (msti_port v.settings tree (named_port p)) else had

-- the settings of the port are noted in the trees that pass the test
abbrev pub IsNoted : (ℕ → Bool) → Viewed → PortInView → (old new : List (ℕ × BTreeMap ℕ MstiPort)) → Type 0
IsNoted test v p old new = (tree k : ℕ) → in_map (own_in new tree) k ≡ noted_at test v p tree k (in_map (own_in old tree) k)
