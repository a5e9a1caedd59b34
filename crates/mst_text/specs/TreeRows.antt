-- The rows of a tree's text.
use Rattle.std.specs.Prelude.{ℕ, ◌==◌, List, [], ◌∷◌, Option, if◌then◌else◌}
use Rattle.std.specs.Option.{option_map_or}
use Rattle.mst_ids.specs.Texts.{bridge_id_text, port_id_text}
use Rattle.mst_ids.specs.declared.name.PortName.{PortName}
use Rattle.mst_kinds.specs.declared.kind.Kind.TheVariants as kind
use Rattle.mst_kinds.specs.declared.tree_line.TreeLine.TheVariants as tree_line
use Rattle.mst_rows.specs.Cells.{word, number}
use Rattle.mst_rows.specs.Rows.{Row, row_of}
use Rattle.mst_vector.specs.declared.cist.CistPort.{CistPort}
use Rattle.mst_vector.specs.declared.cist.CistVector.{CistVector}
use Rattle.mst_vector.specs.declared.msti.MstiPort.{MstiPort}
use Rattle.mst_vector.specs.declared.msti.MstiVector.{MstiVector}
use Rattle.mst_tables.specs.Tables.{Net, BridgeRow}
use Rattle.mst_tables.specs.ByTree.{ByTree, by_tree}
use Rattle.mst_view.specs.View.{LogicalPort}
use Rattle.mst_vlan.specs.forest.Cist.{cist_port}
use Rattle.mst_vlan.specs.forest.InUse.{id_in}
use Rattle.mst_vlan.specs.forest.Msti.{msti_port}
use Rattle.mst_vlan.specs.roles.Names.{role_text}
use Rattle.mst_vlan.specs.roles.declared.kind.Role.{Role}
use Rattle.mst_text.specs.Holders.{holder_cell}

-- `tree T`
abbrev pub heading : ℕ → Row
heading tree = row_of (kind.Tree tree_line.Heading) (number tree ∷ [])

-- ---- bridges
-- `bridge B off`
abbrev pub off_row : ℕ → List ℕ → Row
off_row tree bridge = row_of (kind.Tree tree_line.BridgeOff) (number tree ∷ word bridge ∷ [])

-- `bridge B ID root R ext ERC regional RR int IRC from D PD at PB`, in the CIST, with the names of the bridges of R, RR and D
abbrev pub cist_row : Net → List ℕ → ℕ → CistVector → Row
cist_row net bridge id v =
    row_of (kind.Tree tree_line.BridgeInCist)
    (number 0 ∷ word bridge ∷ word (bridge_id_text id)
    ∷ word (bridge_id_text v.root) ∷ holder_cell net v.root ∷ number v.external
    ∷ word (bridge_id_text v.regional) ∷ holder_cell net v.regional ∷ number v.internal
    ∷ word (bridge_id_text v.designated) ∷ holder_cell net v.designated
    ∷ word (port_id_text v.port) ∷ word (port_id_text v.receiver) ∷ [])

-- `bridge B ID regional RR int IRC from D PD at PB`, in an MSTI, with the names of the bridges of RR and D
abbrev pub msti_row : Net → ℕ → List ℕ → ℕ → MstiVector → Row
msti_row net tree bridge id v =
    row_of (kind.Tree tree_line.BridgeInMsti)
    (number tree ∷ word bridge ∷ word (bridge_id_text id)
    ∷ word (bridge_id_text v.regional) ∷ holder_cell net v.regional ∷ number v.internal
    ∷ word (bridge_id_text v.designated) ∷ holder_cell net v.designated
    ∷ word (port_id_text v.port) ∷ word (port_id_text v.receiver) ∷ [])

-- of a bridge that is on, by its root priority vector in the CIST or in the MSTI
abbrev pub vector_rows : Net → ℕ → List ℕ → ℕ → Option CistVector → Option MstiVector → List Row
vector_rows net tree bridge id cist msti =
    if tree == 0 then option_map_or (λ v. cist_row net bridge id v ∷ []) cist [] else option_map_or (λ v. msti_row net tree bridge id v ∷ []) msti []

-- of any bridge
abbrev pub bridge_rows : Net → ℕ → List ℕ → BridgeRow → Option CistVector → Option MstiVector → List Row
bridge_rows net tree bridge row cist msti = if row.is_on then vector_rows net tree bridge (id_in (by_tree net) tree bridge row) cist msti else off_row tree bridge ∷ []

-- ---- ports
-- `port B P LAN ROLE`, of one that isn't enabled
abbrev pub disabled_row : ℕ → PortName → List ℕ → List ℕ → Row
disabled_row tree port lan role = row_of (kind.Tree tree_line.PortDisabled) (number tree ∷ word port.bridge ∷ number port.number ∷ word lan ∷ word role ∷ [])

-- `port B P LAN PID ext EXT int INT ROLE`, in the CIST
abbrev pub cist_port_row : PortName → List ℕ → CistPort → List ℕ → Row
cist_port_row port lan p role =
    row_of (kind.Tree tree_line.PortInCist)
    (number 0 ∷ word port.bridge ∷ number port.number ∷ word lan ∷ word (port_id_text p.id) ∷ number p.external ∷ number p.internal ∷ word role ∷ [])

-- `port B P LAN PID int INT ROLE`, in an MSTI
abbrev pub msti_port_row : ℕ → PortName → List ℕ → MstiPort → List ℕ → Row
msti_port_row tree port lan p role =
    row_of (kind.Tree tree_line.PortInMsti)
    (number tree ∷ word port.bridge ∷ number port.number ∷ word lan ∷ word (port_id_text p.id) ∷ number p.internal ∷ word role ∷ [])

-- of an enabled port
abbrev pub enabled_row : ByTree → ℕ → LogicalPort → List ℕ → Row
enabled_row set tree p role = if tree == 0 then cist_port_row p.name p.lan (cist_port set p) role else msti_port_row tree p.name p.lan (msti_port set tree p) role

-- of any port, with its role
abbrev pub port_row : ByTree → ℕ → LogicalPort → Role → Row
port_row set tree p role = if p.is_enabled then enabled_row set tree p (role_text role) else disabled_row tree p.name p.lan (role_text role)
