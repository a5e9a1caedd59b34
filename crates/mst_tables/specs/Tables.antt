-- The network as finite tables: bridges and LANs by name, ports by the name of their bridge and their
-- number, priorities and costs by bridge or port and tree, tables of VIDs by bridge, VLANs by port.
use Rattle.std.specs.Prelude.{◌≡◌, ℕ, ◌==◌, ◌^◌, ◌<◌, ◌≤◌, ◌≢◌, Bool, false, List, length, Option, Some, IsTrue, ◌&&◌, nat_eq, refl}
use Rattle.std.specs.Bool.{beq}
use Rattle.std.specs.List.{list_all, AllByRecursion}
use Rattle.std.specs.Coded.{Coded, code_by, coded×, coded_ℕ, coded_bool, coded_list, coded_option}
use Rattle.std.specs.Ordering.{nat_cmp, ordering_then}
use Rattle.std.specs.declared.cmp.Ordering.{Ordering}
use Rattle.std.specs.Cmp.Lexicographic.{pointwise}
use Rattle.std.specs.FinMap as fin
use Rattle.mst_ids.specs.Names.{name_cmp, port_cmp, coded_port}
use Rattle.mst_ids.specs.Texts.{is_conf_name}
use Rattle.mst_ids.specs.Vids.{set_where, is_vid, IsVidSet}
use Rattle.mst_lang.specs.Ranges.{IsName}
use Rattle.mst_tables.specs.Table.{tree_count}
use Rattle.mst_ids.specs.declared.name.PortName.{PortName}
use Rattle.mst_tables.specs.declared.settings.PortSettings.{PortSettings}

-- a bridge's settings: its MAC, its kind, whether it is on, its system priority in the identifiers of link
-- aggregation groups, the revision and the name of its MST configuration, and how far what it says may go
pub record BridgeRow : Type 0 where
  pub mac : ℕ
  pub is_rstp : Bool
  pub is_on : Bool
  pub system_priority : ℕ
  pub revision : ℕ
  pub conf_name : List ℕ
  pub max_hops : ℕ
  pub max_age : ℕ

-- a port: the LAN that it is plugged into, if there is one, and its settings, which are its aggregation key, of
-- which 0 is none, its external path cost, or none where it is automatic, and whether its role is restricted
pub record PortRow : Type 0 where
  pub lan : Option (List ℕ)
  pub settings : PortSettings

-- a LAN's settings: its speed in kb/s, and whether it is up
pub record LanRow : Type 0 where
  pub speed : ℕ
  pub is_up : Bool

-- whether two names are those of one port
abbrev pub port_eq : PortName → PortName → Bool
port_eq p q = pointwise nat_eq p.bridge q.bridge && nat_eq p.number q.number

-- a bridge in a tree, and a port in a tree
pub record BridgeTree : Type 0 where
  pub bridge : List ℕ
  pub tree : ℕ

pub record PortTree : Type 0 where
  pub port : PortName
  pub tree : ℕ

abbrev pub bridge_tree_eq : BridgeTree → BridgeTree → Bool
bridge_tree_eq a b = pointwise nat_eq a.bridge b.bridge && nat_eq a.tree b.tree

abbrev pub port_tree_eq : PortTree → PortTree → Bool
port_tree_eq a b = port_eq a.port b.port && nat_eq a.tree b.tree

abbrev pub bridge_tree_cmp : BridgeTree → BridgeTree → Ordering
bridge_tree_cmp a b = ordering_then (name_cmp a.bridge b.bridge) (nat_cmp a.tree b.tree)

abbrev pub port_tree_cmp : PortTree → PortTree → Ordering
port_tree_cmp a b = ordering_then (port_cmp a.port b.port) (nat_cmp a.tree b.tree)

-- the tables: the records, and what is set by tree or VID, of which a default is never kept: the priorities
-- of bridges and of ports, of which 8 is the default, the internal path costs that aren't automatic, the
-- tables of bridges that map some VID to another tree than the CIST, and the VLANs of ports that aren't
-- members of all
pub record Net : Type 0 where
  pub bridges : fin.FinMap name_cmp BridgeRow
  pub ports : fin.FinMap port_cmp PortRow
  pub lans : fin.FinMap name_cmp LanRow
  pub priorities : fin.FinMap bridge_tree_cmp ℕ
  pub port_priorities : fin.FinMap port_tree_cmp ℕ
  pub port_costs : fin.FinMap port_tree_cmp ℕ
  pub tables : fin.FinMap name_cmp (List ℕ)
  pub vlans : fin.FinMap port_cmp (List Bool)

-- with no bridge, port or LAN
abbrev pub empty_net : Net
empty_net = record {
  bridges = fin.empty;
  ports = fin.empty;
  lans = fin.empty;
  priorities = fin.empty;
  port_priorities = fin.empty;
  port_costs = fin.empty;
  tables = fin.empty;
  vlans = fin.empty;
}

-- the stable number of each record
pub record Numbers : Type 0 where
  pub bridges : fin.FinMap name_cmp ℕ
  pub ports : fin.FinMap port_cmp ℕ
  pub lans : fin.FinMap name_cmp ℕ

abbrev pub no_numbers : Numbers
no_numbers = record { bridges = fin.empty; ports = fin.empty; lans = fin.empty }

-- values in their ranges
abbrev pub IsLimit : ℕ → Type 0
IsLimit n = (6 ≤ n) × (n ≤ 40)

abbrev pub IsPathCost : ℕ → Type 0
IsPathCost n = (1 ≤ n) × (n ≤ 200_000_000)

-- a priority that isn't the default
abbrev pub IsOwnPriority : ℕ → Type 0
IsOwnPriority n = (n ≤ 15) × (n ≢ 8)

-- a table of the 4,094 VIDs, with at most 64 trees other than the CIST
abbrev pub IsTable : List ℕ → Type 0
IsTable table = (length table ≡ 4094) × AllByRecursion (λ tree. tree ≤ 4094) table × (tree_count table ≤ 64)

-- the MACs of bridges differ, names are in form, and system priorities and revisions have 16 bits
pub record AreBridges (bridges : fin.FinMap name_cmp BridgeRow) : Type 0 where
  pub named : (a : List ℕ) (x : BridgeRow) → fin.get bridges a ≡ Some x → IsName a
  pub macs_differ : (a b : List ℕ) (x y : BridgeRow) → fin.get bridges a ≡ Some x → fin.get bridges b ≡ Some y → x.mac ≡ y.mac → a ≡ b
  pub mac_fits : (a : List ℕ) (x : BridgeRow) → fin.get bridges a ≡ Some x → x.mac < 2 ^ 48
  pub names_fit : (a : List ℕ) (x : BridgeRow) → fin.get bridges a ≡ Some x → IsTrue (is_conf_name x.conf_name)
  pub sixteen_bits : (a : List ℕ) (x : BridgeRow) → fin.get bridges a ≡ Some x → (x.system_priority < 2 ^ 16) × (x.revision < 2 ^ 16)
  pub limits_fit : (a : List ℕ) (x : BridgeRow) → fin.get bridges a ≡ Some x → IsLimit x.max_hops × IsLimit x.max_age
  pub few : fin.len bridges ≤ 1024

-- the names of LANs are in form
pub record AreLans (lans : fin.FinMap name_cmp LanRow) : Type 0 where
  pub named : (l : List ℕ) (x : LanRow) → fin.get lans l ≡ Some x → IsName l
  pub speed_fits : (l : List ℕ) (x : LanRow) → fin.get lans l ≡ Some x → (1 ≤ x.speed) × (x.speed ≤ 9_999_999_999)
  pub few : fin.len lans ≤ 8192

-- each port's bridge and each plug's LAN is there, and keys have 16 bits
pub record ArePorts (bridges : fin.FinMap name_cmp BridgeRow) (lans : fin.FinMap name_cmp LanRow) (ports : fin.FinMap port_cmp PortRow) : Type 0 where
  pub has_bridge : (p : PortName) (x : PortRow) → fin.get ports p ≡ Some x → IsTrue (fin.contains_key bridges p.bridge)
  pub number_fits : (p : PortName) (x : PortRow) → fin.get ports p ≡ Some x → (1 ≤ p.number) × (p.number ≤ 4095)
  pub key_fits : (p : PortName) (x : PortRow) → fin.get ports p ≡ Some x → x.settings.key < 2 ^ 16
  pub has_lan : (p : PortName) (x : PortRow) (lan : List ℕ) → fin.get ports p ≡ Some x → x.lan ≡ Some lan → IsTrue (fin.contains_key lans lan)
  pub cost_fits : (p : PortName) (x : PortRow) (cost : ℕ) → fin.get ports p ≡ Some x → x.settings.external ≡ Some cost → IsPathCost cost
  pub few : fin.len ports ≤ 16384

-- What is true of every network: its records fit together, what is set by tree or VID is set for a bridge
-- or a port that is there, values are in their ranges, the limits hold, and a default is never kept: no
-- priority 8, no table with all VIDs in the CIST, and no set of all VIDs
pub record IsNetwork (net : Net) : Type 0 where
  pub bridges : AreBridges net.bridges
  pub lans : AreLans net.lans
  pub ports : ArePorts net.bridges net.lans net.ports
  pub priorities : (k : BridgeTree) (n : ℕ) → fin.get net.priorities k ≡ Some n → IsTrue (fin.contains_key net.bridges k.bridge) × (k.tree ≤ 4094) × IsOwnPriority n
  pub port_priorities : (k : PortTree) (n : ℕ) → fin.get net.port_priorities k ≡ Some n → IsTrue (fin.contains_key net.ports k.port) × (k.tree ≤ 4094) × IsOwnPriority n
  pub port_costs : (k : PortTree) (n : ℕ) → fin.get net.port_costs k ≡ Some n → IsTrue (fin.contains_key net.ports k.port) × (k.tree ≤ 4094) × IsPathCost n
  pub tables : (a : List ℕ) (t : List ℕ) → fin.get net.tables a ≡ Some t → IsTrue (fin.contains_key net.bridges a) × IsTable t × (list_all (λ tree. tree == 0) t ≡ false)
  pub vlans : (p : PortName) (v : List Bool) → fin.get net.vlans p ≡ Some v → IsTrue (fin.contains_key net.ports p) × IsVidSet v × (pointwise beq v (set_where is_vid) ≡ false)

-- how the tables are stored, so that proofs can tell two of them apart
abbrev pub bridge_row_code : Coded BridgeRow
bridge_row_code =
    code_by (ℕ × (Bool × (Bool × (ℕ × (ℕ × (List ℕ × (ℕ × ℕ)))))))
    (coded× coded_ℕ (coded× coded_bool (coded× coded_bool (coded× coded_ℕ (coded× coded_ℕ (coded× (coded_list coded_ℕ) (coded× coded_ℕ coded_ℕ)))))))
    (λ b. (b.mac, (b.is_rstp, (b.is_on, (b.system_priority, (b.revision, (b.conf_name, (b.max_hops, b.max_age))))))))
    (λ p. record {
      mac = p.0;
      is_rstp = p.1.0;
      is_on = p.1.1.0;
      system_priority = p.1.1.1.0;
      revision = p.1.1.1.1.0;
      conf_name = p.1.1.1.1.1.0;
      max_hops = p.1.1.1.1.1.1.0;
      max_age = p.1.1.1.1.1.1.1;
    }) (λ _. refl)

abbrev pub port_settings_code : Coded PortSettings
port_settings_code =
    code_by (ℕ × (Option ℕ × Bool)) (coded× coded_ℕ (coded× (coded_option coded_ℕ) coded_bool)) (λ s. (s.key, (s.external, s.is_restricted)))
    (λ p. record { key = p.0; external = p.1.0; is_restricted = p.1.1 }) (λ _. refl)

abbrev pub port_row_code : Coded PortRow
port_row_code = code_by (Option (List ℕ) × PortSettings) (coded× (coded_option (coded_list coded_ℕ)) port_settings_code) (λ p. (p.lan, p.settings)) (λ p. record { lan = p.0; settings = p.1 }) (λ _. refl)

abbrev pub lan_row_code : Coded LanRow
lan_row_code = code_by (ℕ × Bool) (coded× coded_ℕ coded_bool) (λ l. (l.speed, l.is_up)) (λ p. record { speed = p.0; is_up = p.1 }) (λ _. refl)

abbrev pub bridge_tree_code : Coded BridgeTree
bridge_tree_code = code_by (List ℕ × ℕ) (coded× (coded_list coded_ℕ) coded_ℕ) (λ k. (k.bridge, k.tree)) (λ p. record { bridge = p.0; tree = p.1 }) (λ _. refl)

abbrev pub port_tree_code : Coded PortTree
port_tree_code = code_by (PortName × ℕ) (coded× coded_port coded_ℕ) (λ k. (k.port, k.tree)) (λ p. record { port = p.0; tree = p.1 }) (λ _. refl)
