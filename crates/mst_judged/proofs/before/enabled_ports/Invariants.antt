use Rattle.std.proofs.Common.{◌≡◌, ◌&&◌, take}
use Rattle.std.specs.List.{list_any}
use Rattle.std.specs.HashSet.{contains}
use Rattle.mst_ids.specs.declared.name.PortName.{PortName}
use Rattle.mst_tables.specs.Tables.{port_eq}
use Rattle.mst_judged.proofs.before.enabled_ports.Given as goal

-- the enabled ones of those so far
abbrev pub invariant-loop-port : goal.invariant-loop-port
invariant-loop-port l = (port : PortName) → contains port_eq l.names port ≡ list_any (λ p. p.is_enabled && port_eq p.name port) (take l.port-index l.view.ports)
