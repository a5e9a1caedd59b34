-- What is seen of a network that is judged in its view, and what is kept of the one before.
use Rattle.std.specs.Prelude.{◌≡◌, ◌&&◌, not, Bool, List, filter}
use Rattle.std.specs.HashSet.{contains}
use Rattle.mst_ids.specs.declared.name.PortName.{PortName}
use Rattle.mst_tables.specs.Tables.{Net, port_eq}
use Rattle.mst_view.specs.Viewed.{Viewed}
use Rattle.mst_view.specs.declared.in_view.BridgeInView.{BridgeInView}
use Rattle.mst_view.specs.declared.in_view.PortInView.{PortInView}
use Rattle.mst_policy.specs.Items as policy
use Rattle.mst_policy.specs.declared.item.NameItem.{NameItem}
use Rattle.mst_policy.specs.declared.item.PortItem.{PortItem}
use Rattle.mst_reasons.specs.sweep.declared.failure.Failure.{Failure}
use Rattle.mst_reasons.specs.Named.{is_named, is_enabled}
use Rattle.mst_judged.specs.declared.before.Before.{Before}

-- the ports that are kept are the enabled ones of the network
abbrev pub IsBefore : Net → Before → Type 0
IsBefore net before = (port : PortName) → contains port_eq before.enabled port ≡ is_enabled net port

-- ---- bridges
abbrev pub seen_named : Viewed → List Failure → List NameItem → List BridgeInView
seen_named v lost names = filter (λ b. is_named lost names b.name) v.bridges

-- ---- ports
-- a port isn't enabled that was so before
abbrev pub seen_stopped : Before → PortInView → Bool
seen_stopped before p = not p.is_enabled && contains port_eq before.enabled p.name

abbrev pub seen_ports_named : Viewed → Before → List PortItem → List PortInView
seen_ports_named v before ports = filter (λ p. policy.has_port ports p.name && not (seen_stopped before p)) v.ports
