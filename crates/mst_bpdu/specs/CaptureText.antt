-- What is told of a capture: its rows.
use Rattle.std.specs.Prelude.{ℕ, Bool, true, false, ◌==◌, List, [], ◌∷◌, map, if◌then◌else◌, codes}
use Rattle.hex.specs.Hex.{encode_lower}
use Rattle.mst_ids.specs.Texts.{bridge_id_text, port_id_text}
use Rattle.mst_ids.specs.declared.name.PortName.{PortName}
use Rattle.mst_kinds.specs.declared.kind.Kind.TheVariants.{Capture}
use Rattle.mst_kinds.specs.declared.capture_line.CaptureLine.{CaptureLine}
use Rattle.mst_kinds.specs.declared.capture_line.CaptureLine.TheVariants as capture_line
use Rattle.mst_rows.specs.Cells.{Cell, absent, word, number, port as port_cell}
use Rattle.mst_rows.specs.Rows.{Row, row_of}
use Rattle.mst_bpdu.specs.Faults.{fault_code, fault_text}
use Rattle.mst_bpdu.specs.declared.fault.BpduFault.{BpduFault}
use Rattle.mst_bpdu.specs.declared.difference.Difference.{Difference}
use Rattle.mst_bpdu.specs.declared.difference.Value.{Value}
use Rattle.mst_bpdu.specs.declared.difference.Value.TheVariants as values
use Rattle.mst_bpdu.specs.declared.difference.Field.{Field}
use Rattle.mst_bpdu.specs.declared.difference.Field.TheVariants.{Role, Learning, Forwarding, Root, ExternalCost, RegionalRoot, InternalCost, Bridge, Port, Selector, Name, Revision, Digest, BridgePriority, PortPriority, Unplanned, Repeated, Missing}

abbrev pub field_name : Field → List ℕ
field_name Role = codes "role"
field_name Learning = codes "learning"
field_name Forwarding = codes "forwarding"
field_name Root = codes "root"
field_name ExternalCost = codes "ext"
field_name RegionalRoot = codes "regional"
field_name InternalCost = codes "int"
field_name Bridge = codes "bridge"
field_name Port = codes "port"
field_name Selector = codes "selector"
field_name Name = codes "name"
field_name Revision = codes "revision"
field_name Digest = codes "digest"
field_name BridgePriority = codes "bridgeprio"
field_name PortPriority = codes "portprio"
field_name Unplanned = codes "unplanned"
field_name Repeated = codes "repeated"
field_name Missing = codes "missing"

-- ---- values
-- an octet before others, left out where it is a zero before none
abbrev pub before_trimmed : ℕ → List ℕ → List ℕ
before_trimmed b [] = if b == 0 then [] else b ∷ []
before_trimmed b (c ∷ cs) = b ∷ c ∷ cs

abbrev pub without_trailing_zeros : List ℕ → List ℕ
without_trailing_zeros [] = []
without_trailing_zeros (b ∷ bs) = before_trimmed b (without_trailing_zeros bs)

-- octets as lower case digits, if there are some
abbrev pub octets_cell : List ℕ → Cell
octets_cell [] = absent
octets_cell (b ∷ bs) = word (encode_lower (b ∷ bs))

abbrev pub value_cell : Value → Cell
value_cell values.Nil = absent
value_cell (values.Number n) = number n
value_cell (values.Bridge b) = word (bridge_id_text b)
value_cell (values.Port p) = word (port_id_text p)
value_cell (values.Name name) = octets_cell (without_trailing_zeros name)
value_cell (values.Digest digest) = octets_cell digest

-- ---- rows
abbrev pub is_number : Value → Bool
is_number (values.Number n) = true
is_number _ = false

-- the line of a number or of another value, in the CIST or in an MSTI
abbrev pub line_in : ℕ → Bool → CaptureLine
line_in tree of_number = if tree == 0 then (if of_number then capture_line.Number else capture_line.Text) else (if of_number then capture_line.MstiNumber else capture_line.MstiText)

-- the row of a field with its values, and of an MSTI as a whole
abbrev pub field_row : ℕ → PortName → Difference → Row
field_row n port d =
    row_of (Capture (line_in d.tree (is_number d.plan))) (number n ∷ port_cell port ∷ number d.tree ∷ word (field_name d.field) ∷ value_cell d.plan ∷ value_cell d.capture ∷ [])

abbrev pub whole_row : CaptureLine → ℕ → PortName → ℕ → Row
whole_row line n port tree = row_of (Capture line) (number n ∷ port_cell port ∷ number tree ∷ [])

abbrev pub row_by : Field → ℕ → PortName → Difference → Row
row_by Unplanned n port d = whole_row capture_line.Unplanned n port d.tree
row_by Repeated n port d = whole_row capture_line.Repeated n port d.tree
row_by Missing n port d = whole_row capture_line.Missing n port d.tree
row_by _ n port d = field_row n port d

abbrev pub difference_row : ℕ → PortName → Difference → Row
difference_row n port d = row_by d.field n port d

-- ---- a capture
abbrev pub agrees_row : ℕ → PortName → Row
agrees_row n port = row_of (Capture capture_line.Agrees) (number n ∷ port_cell port ∷ [])

-- one that was compared: that it agrees, or each difference
abbrev pub comparison_rows : ℕ → PortName → List Difference → List Row
comparison_rows n port [] = agrees_row n port ∷ []
comparison_rows n port (d ∷ ds) = map (difference_row n port) (d ∷ ds)

-- one that wasn't
abbrev pub fault_row : ℕ → BpduFault → Row
fault_row n fault = row_of (Capture capture_line.Unread) (number n ∷ word (fault_code fault) ∷ word (fault_text fault) ∷ [])
