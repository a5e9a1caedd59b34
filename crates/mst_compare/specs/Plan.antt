-- What a plan has for the BPDUs of a port.
use Rattle.std.specs.Prelude.{ℕ, ◌-◌, List, ◌∷◌, ◌++◌, length, replicate, filter_map, Option}
use Rattle.std.specs.Option.{option_map, option_and_then}
use Rattle.std.specs.FinMap as fin
use Rattle.byteorder.specs.Endian.{big_bytes}
use Rattle.mst_ids.specs.Identifiers.{bridge_id, port_id}
use Rattle.mst_ids.specs.declared.name.PortName.{PortName}
use Rattle.mst_vector.specs.declared.cist.CistVector.{CistVector}
use Rattle.mst_vector.specs.declared.msti.MstiVector.{MstiVector}
use Rattle.mst_tables.specs.Tables.{Net, BridgeRow}
use Rattle.mst_tables.specs.ByTree.{ByTree, by_tree, priority_in, port_priority_in}
use Rattle.mst_tables.specs.After.{table_of}
use Rattle.mst_view.specs.Trees.{mstis_of}
use Rattle.mst_roles.specs.forest.config.Digest.{digest_of}
use Rattle.mst_roles.specs.forest.Outcome.{Outcome}
use Rattle.mst_roles.specs.Roles.{role_of, forwards as is_forwarding}
use Rattle.mst_roles.specs.declared.kind.Role.{Role}
use Rattle.mst_roles.specs.declared.kind.Role.TheVariants.{Root, Designated, Alternate, Backup, Master, Disabled}
use Rattle.mst_bpdu.specs.declared.flags.RoleCode.{RoleCode}
use Rattle.mst_bpdu.specs.declared.flags.RoleCode.TheVariants as coded
use Rattle.mst_bpdu.specs.declared.bpdu.ConfigurationId.{ConfigurationId}
use Rattle.mst_bpdu.specs.declared.planned.Planned.{Planned}
use Rattle.mst_bpdu.specs.declared.planned.PlannedCist.{PlannedCist}
use Rattle.mst_bpdu.specs.declared.planned.PlannedMsti.{PlannedMsti}

-- the role as BPDUs tell it. A port that isn't enabled has none to tell, which is the code of Master
abbrev pub code_of : Role → RoleCode
code_of Root = coded.Root
code_of Designated = coded.Designated
code_of Alternate = coded.AlternateOrBackup
code_of Backup = coded.AlternateOrBackup
code_of Master = coded.Master
code_of Disabled = coded.Master

-- ---- the configuration
-- the name in 32 octets, with zeros after it
abbrev pub padded : List ℕ → List ℕ
padded name = name ++ replicate (32 - length name) 0

-- the MST Configuration Identifier of a bridge with this table (802.1Q-2022, 13.8)
abbrev pub configuration_of : BridgeRow → List ℕ → ConfigurationId
configuration_of row table = record { selector = 0; name = padded row.conf_name; revision = row.revision; digest = digest_of table }

-- an identifier's 51 octets, one field after another
abbrev pub octets_of : ConfigurationId → List ℕ
octets_of c = c.selector ∷ c.name ++ big_bytes 2 c.revision ++ c.digest

-- ---- the designated priority vectors
-- in the CIST, of a port of this role: its bridge's root priority vector, with the identifiers of the bridge and of
-- the port as the designated ones
abbrev pub planned_cist : ByTree → PortName → BridgeRow → CistVector → Role → PlannedCist
planned_cist set port row v role = record {
  role = code_of role;
  forwards = is_forwarding role;
  root = v.root;
  external_cost = v.external;
  regional_root = v.regional;
  internal_cost = v.internal;
  bridge = bridge_id (priority_in set.priorities port.bridge 0) 0 row.mac;
  port = port_id (port_priority_in set.port_priorities port 0) port.number;
}

-- in an MSTI likewise, where the identifiers are told by their priorities
abbrev pub planned_msti : ByTree → PortName → ℕ → MstiVector → Role → PlannedMsti
planned_msti set port tree v role = record {
  tree = tree;
  role = code_of role;
  forwards = is_forwarding role;
  regional_root = v.regional;
  internal_cost = v.internal;
  bridge_priority = priority_in set.priorities port.bridge tree;
  port_priority = port_priority_in set.port_priorities port tree;
}

-- what two values make, where both are there
abbrev pub with_both : {A B C : Type 0} → (A → B → C) → Option A → Option B → Option C
with_both f a b = option_and_then (λ x. option_map (f x) b) a

-- by the outcome, where the port's bridge has a root priority vector in the tree
abbrev pub cist_of : Net → Outcome → PortName → BridgeRow → Option PlannedCist
cist_of net o port row = with_both (planned_cist (by_tree net) port row) (o.cist.vector port.bridge) (role_of net o 0 port)

abbrev pub msti_of : Net → Outcome → PortName → ℕ → Option PlannedMsti
msti_of net o port tree = with_both (planned_msti (by_tree net) port tree) ((o.msti tree).vector port.bridge) (role_of net o tree port)

-- ---- all of it
-- of a port of a bridge with these settings and this table
abbrev pub plan_with : BridgeRow → List ℕ → List PlannedMsti → PlannedCist → Planned
plan_with row table mstis cist = record { cist = cist; configuration = configuration_of row table; mstis = mstis }

-- in the CIST and in each MSTI of the bridge, rising
abbrev pub plan_at : Net → Outcome → PortName → BridgeRow → Option Planned
plan_at net o port row = option_map (plan_with row (table_of net port.bridge) (filter_map (msti_of net o port) (mstis_of net port.bridge row))) (cist_of net o port row)

-- of any port: none where its bridge isn't there or is off
abbrev pub planned_of : Net → Outcome → PortName → Option Planned
planned_of net o port = option_and_then (plan_at net o port) (fin.get net.bridges port.bridge)
