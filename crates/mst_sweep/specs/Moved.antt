-- Roots and roles that are other ones after a failure.
use Rattle.std.specs.Prelude.{ℕ, ◌==◌, ◌&&◌, not, Bool, true, false, List, Option, Some, filter}
use Rattle.std.specs.List.{list_any, count_by, sum_by}
use Rattle.mst_ids.specs.declared.name.PortName.{PortName}
use Rattle.mst_net.specs.tables.Tables.{Net}
use Rattle.mst_vlan.specs.forest.Outcome.{Outcome}
use Rattle.mst_vlan.specs.roles.Roles.{role_of}
use Rattle.mst_vlan.specs.roles.declared.kind.Role.{Role}
use Rattle.mst_vlan.specs.roles.declared.kind.Role.TheVariants.{Disabled}
use Rattle.mst_vlan.specs.forest.AllTrees.{all_trees}
use Rattle.mst_view.specs.View.{bridge_names, port_names}
use Rattle.mst_vlan.specs.roles.RoleNumbers.{role_number}
use Rattle.mst_facts.specs.Roots.{root_of}

-- there are two roots, and they aren't the same
abbrev pub is_other_root : Option ℕ → Option ℕ → Bool
is_other_root (Some old) (Some new) = not (old == new)
is_other_root _ _ = false

-- a bridge that has a vector in both has another root afterwards
abbrev pub root_moved : Net → Outcome → Net → Outcome → ℕ → List ℕ → Bool
root_moved a o b p tree bridge = is_other_root (root_of a o tree bridge) (root_of b p tree bridge)

-- the trees, rising, in which some bridge does
abbrev pub moved_roots : Net → Outcome → Net → Outcome → List ℕ
moved_roots a o b p = filter (λ tree. list_any (root_moved a o b p tree) (bridge_names a)) all_trees

-- a role other than Disabled
abbrev pub takes_part : Role → Bool
takes_part Disabled = false
takes_part _ = true

-- there are two such roles, and they aren't the same
abbrev pub is_other_role : Option Role → Option Role → Bool
is_other_role (Some old) (Some new) = takes_part old && takes_part new && not (role_number old == role_number new)
is_other_role _ _ = false

abbrev pub port_moved : Net → Outcome → Net → Outcome → ℕ → PortName → Bool
port_moved a o b p tree port = is_other_role (role_of a o tree port) (role_of b p tree port)

-- how many pairs of a tree and a logical port have them
abbrev pub moved_ports : Net → Outcome → Net → Outcome → ℕ
moved_ports a o b p = sum_by (λ tree. count_by (port_moved a o b p tree) (port_names a)) all_trees
