-- What is set by tree or VID.
use Rattle.std.specs.Prelude.{◌≡◌, ℕ, ◌≤◌, Bool, List, Option, Some, refl}
use Rattle.std.specs.Option.{unwrap_or}
use Rattle.std.specs.FinMap as fin
use Rattle.std.specs.Coded.{Coded, code_by, coded×, coded_ℕ, coded_bool, coded_list}
use Rattle.mst_ids.specs.Names.{name_cmp, port_cmp, coded_port}
use Rattle.mst_ids.specs.Vids.{set_where, is_vid}
use Rattle.mst_ids.specs.declared.name.PortName.{PortName}
use Rattle.mst_tables.specs.Table.{no_table}
use Rattle.mst_tables.specs.Tables.{Net, empty_net, bridge_tree_cmp, port_tree_cmp, bridge_tree_code, port_tree_code}

-- what is set by tree or VID, as in `Net`
pub record ByTree : Type 0 where
  pub priorities : fin.FinMap bridge_tree_cmp ℕ
  pub port_priorities : fin.FinMap port_tree_cmp ℕ
  pub port_costs : fin.FinMap port_tree_cmp ℕ
  pub tables : fin.FinMap name_cmp (List ℕ)
  pub vlans : fin.FinMap port_cmp (List Bool)

abbrev pub by_tree : Net → ByTree
by_tree net = record { priorities = net.priorities; port_priorities = net.port_priorities; port_costs = net.port_costs; tables = net.tables; vlans = net.vlans }

-- a network with these settings in place of its own
abbrev pub with_by_tree : Net → ByTree → Net
with_by_tree net set = record net { priorities = set.priorities; port_priorities = set.port_priorities; port_costs = set.port_costs; tables = set.tables; vlans = set.vlans }

-- nothing is set
abbrev pub nothing_set : ByTree
nothing_set = by_tree empty_net

-- the trees are from 0, the CIST, to 4094
pub record AreInTrees (set : ByTree) : Type 0 where
  pub priorities : (bridge : List ℕ) (tree n : ℕ) → fin.get set.priorities (record { bridge = bridge; tree = tree }) ≡ Some n → tree ≤ 4094
  pub port_priorities : (port : PortName) (tree n : ℕ) → fin.get set.port_priorities (record { port = port; tree = tree }) ≡ Some n → tree ≤ 4094
  pub port_costs : (port : PortName) (tree n : ℕ) → fin.get set.port_costs (record { port = port; tree = tree }) ≡ Some n → tree ≤ 4094

-- the priority of a bridge in a tree, 8 where none is set
abbrev pub priority_in : fin.FinMap bridge_tree_cmp ℕ → List ℕ → ℕ → ℕ
priority_in priorities bridge tree = unwrap_or (fin.get priorities (record { bridge = bridge; tree = tree })) 8

-- the priority of a port in a tree, 8 where none is set
abbrev pub port_priority_in : fin.FinMap port_tree_cmp ℕ → PortName → ℕ → ℕ
port_priority_in priorities port tree = unwrap_or (fin.get priorities (record { port = port; tree = tree })) 8

-- the internal path cost of a port in a tree, none where it is automatic
abbrev pub port_cost_in : fin.FinMap port_tree_cmp ℕ → PortName → ℕ → Option ℕ
port_cost_in costs port tree = fin.get costs (record { port = port; tree = tree })

-- the table of a bridge, with all VIDs in the CIST where none is set
abbrev pub table_in : fin.FinMap name_cmp (List ℕ) → List ℕ → List ℕ
table_in tables bridge = unwrap_or (fin.get tables bridge) no_table

-- the VLANs of a port, all where none are set
abbrev pub vlans_in : fin.FinMap port_cmp (List Bool) → PortName → List Bool
vlans_in vlans port = unwrap_or (fin.get vlans port) (set_where is_vid)

-- for how many more settings of each kind there is room
pub record RoomByTree : Type 0 where
  pub priority : ℕ
  pub port_priority : ℕ
  pub port_cost : ℕ
  pub table : ℕ
  pub vlans : ℕ

-- what is set, and the room for more
pub record Settings : Type 0 where
  pub set : ByTree
  pub room : RoomByTree

-- how they are stored
abbrev pub by_tree_code : Coded ByTree
by_tree_code =
    code_by _
    (coded× (fin.code bridge_tree_code coded_ℕ) (coded× (fin.code port_tree_code coded_ℕ) (coded× (fin.code port_tree_code coded_ℕ)
    (coded× (fin.code (coded_list coded_ℕ) (coded_list coded_ℕ)) (fin.code coded_port (coded_list coded_bool))))))
    (λ s. (s.priorities, (s.port_priorities, (s.port_costs, (s.tables, s.vlans)))))
    (λ p. record { priorities = p.0; port_priorities = p.1.0; port_costs = p.1.1.0; tables = p.1.1.1.0; vlans = p.1.1.1.1 }) (λ _. refl)

abbrev pub room_by_tree_code : Coded RoomByTree
room_by_tree_code =
    code_by (ℕ × (ℕ × (ℕ × (ℕ × ℕ)))) (coded× coded_ℕ (coded× coded_ℕ (coded× coded_ℕ (coded× coded_ℕ coded_ℕ))))
    (λ r. (r.priority, (r.port_priority, (r.port_cost, (r.table, r.vlans)))))
    (λ p. record { priority = p.0; port_priority = p.1.0; port_cost = p.1.1.0; table = p.1.1.1.0; vlans = p.1.1.1.1 }) (λ _. refl)

abbrev pub settings_code : Coded Settings
settings_code = code_by _ (coded× by_tree_code room_by_tree_code) (λ s. (s.set, s.room)) (λ p. record { set = p.0; room = p.1 }) (λ _. refl)
