-- The roles of logical ports, by name (802.1Q-2022, 13.12).
use Rattle.std.specs.Prelude.{ℕ, ◌==◌, Bool, true, false, List, Option, Some, None, if◌then◌else◌}
use Rattle.std.specs.List.{find}
use Rattle.std.specs.Option.{option_map, option_map_or, option_and_then}
use Rattle.std.specs.FinMap as fin
use Rattle.mst_ids.specs.declared.name.PortName.{PortName}
use Rattle.mst_tables.specs.Table.{tree_in}
use Rattle.mst_tables.specs.After.{table_of}
use Rattle.mst_tables.specs.Tables.{Net, port_eq}
use Rattle.mst_tables.specs.ByTree.{by_tree}
use Rattle.mst_view.specs.Aggregation.{same_name}
use Rattle.mst_view.specs.View.{LogicalPort, view_ports}
use Rattle.mst_forest.specs.Cist.{cist_port}
use Rattle.mst_forest.specs.Msti.{msti_port, has_msti, is_internal}
use Rattle.mst_forest.specs.Outcome.{Outcome}
use Rattle.mst_roles.specs.declared.kind.Role.{Role}
use Rattle.mst_roles.specs.declared.kind.Role.TheVariants.{Root, Designated, Alternate, Backup, Master, Disabled}

-- the role of an enabled port beside the designated port of its LAN: it is that port, or another of its bridge is,
-- or none is
abbrev pub beside : PortName → PortName → Role
beside name designated = if port_eq designated name then Designated else (if same_name designated.bridge name.bridge then Backup else Alternate)

-- and by the port that its bridge's root priority vector names as the receiving one. A bridge's own vector names
-- the number 0, which no port has
abbrev pub role_by : ℕ → Option ℕ → Option PortName → PortName → Role
role_by id receiver designated name = if option_map_or (λ r. r == id) receiver false then Root else option_map_or (beside name) designated Alternate

-- in the CIST
abbrev pub cist_role : Net → Outcome → LogicalPort → Role
cist_role net o p =
    if p.is_enabled then role_by (cist_port (by_tree net) p).id (option_map (λ v. v.receiver) (o.cist.vector p.name.bridge)) (o.cist.designated p.lan) p.name else Disabled

-- in an MSTI, of a port that has received external information, by its role in the CIST
abbrev pub outside : Role → Role
outside Root = Master
outside _ = Alternate

-- in an MSTI
abbrev pub msti_role : Net → Outcome → ℕ → LogicalPort → Role
msti_role net o tree p =
    if p.is_enabled
    then (if is_internal net o.cist.designated p
    then role_by (msti_port (by_tree net) tree p).id (option_map (λ v. v.receiver) ((o.msti tree).vector p.name.bridge)) ((o.msti tree).designated p.lan) p.name
    else outside (cist_role net o p))
    else Disabled

-- in any tree, if the port's bridge has it
abbrev pub role_in : Net → Outcome → ℕ → LogicalPort → Option Role
role_in net o tree p = if tree == 0 then Some (cist_role net o p) else (if has_msti net tree p.name.bridge then Some (msti_role net o tree p) else None)

-- of the port of this name, if it is in the view
abbrev pub role_of : Net → Outcome → ℕ → PortName → Option Role
role_of net o tree name = option_and_then (role_in net o tree) (find (λ p. port_eq p.name name) (view_ports net))

-- a port of this role forwards
abbrev pub forwards : Role → Bool
forwards Root = true
forwards Designated = true
forwards Master = true
forwards _ = false

-- the tree that a bridge has a VID in: the one that its table maps the VID to, and the CIST where it is of kind rstp
abbrev pub tree_of_vid : Net → List ℕ → ℕ → ℕ
tree_of_vid net name vid = option_map_or (λ row. if row.is_rstp then 0 else tree_in (table_of net name) vid) (fin.get net.bridges name) 0

-- a logical port forwards for a VID: it does in its own bridge's tree of the VID
abbrev pub forwards_for : Net → Outcome → ℕ → LogicalPort → Bool
forwards_for net o vid p = option_map_or forwards (role_in net o (tree_of_vid net p.name.bridge vid) p) false
