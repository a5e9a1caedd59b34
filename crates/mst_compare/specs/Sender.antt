-- Who sent a BPDU, by the plan.
use Rattle.std.specs.Prelude.{ℕ, ◌==◌, ◌&&◌, not, Bool, List, Option, None, if◌then◌else◌}
use Rattle.std.specs.List.{find}
use Rattle.std.specs.Option.{option_map, option_and_then}
use Rattle.std.specs.FinMap as fin
use Rattle.mst_ids.specs.Identifiers.{mac_of, port_number_of}
use Rattle.mst_ids.specs.declared.name.PortName.{PortName}
use Rattle.mst_tables.specs.Tables.{Net, BridgeRow}
use Rattle.mst_view.specs.Aggregation.{same_name}
use Rattle.mst_view.specs.View.{LogicalPort, view_ports}
use Rattle.mst_bpdu.specs.Sender.{bridge_of, port_of}
use Rattle.mst_bpdu.specs.declared.bpdu.Bpdu.{Bpdu}
use Rattle.mst_bpdu.specs.declared.bpdu.Bpdu.TheVariants.{Rst, Mst}

-- bridges of kind rstp send RST BPDUs, and those of kind mstp send MST BPDUs
abbrev pub sends : Bpdu → Bool → Bool
sends (Rst bpdu) is_rstp = is_rstp
sends (Mst bpdu) is_rstp = not is_rstp

-- a bridge has the MAC of the identifier of the BPDU's bridge
abbrev pub has_mac : Bpdu → List ℕ × BridgeRow → Bool
has_mac bpdu e = e.1.mac == mac_of (bridge_of bpdu)

-- a logical port is enabled, has this number and is of this bridge
abbrev pub is_port : List ℕ → ℕ → LogicalPort → Bool
is_port bridge number p = p.is_enabled && p.name.number == number && same_name p.name.bridge bridge

-- the port of this bridge that sent it: the enabled one with the number of its Port Identifier
abbrev pub sender_at : Net → Bpdu → List ℕ × BridgeRow → Option PortName
sender_at net bpdu e = if sends bpdu e.1.is_rstp then option_map (λ p. p.name) (find (is_port e.0 (port_number_of (port_of bpdu))) (view_ports net)) else None

-- the port that sent it
abbrev pub sender_of : Net → Bpdu → Option PortName
sender_of net bpdu = option_and_then (sender_at net bpdu) (find (has_mac bpdu) (fin.entries net.bridges))
