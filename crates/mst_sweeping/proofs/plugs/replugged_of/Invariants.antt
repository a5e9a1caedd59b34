use Rattle.std.proofs.Common.{◌≡◌, ◌&&◌, take}
use Rattle.std.specs.HashSet.{contains}
use Rattle.std.specs.List.{list_any}
use Rattle.mst_ids.specs.declared.name.PortName.{PortName}
use Rattle.mst_net.specs.tables.Tables.{port_eq}
use Rattle.mst_sweeping.specs.Restarts.{is_elsewhere}
use Rattle.mst_sweeping.proofs.plugs.replugged_of.Given as goal

-- those of the plugs so far
abbrev pub invariant-loop-plug : goal.invariant-loop-plug
invariant-loop-plug g l = (port : PortName) → contains port_eq l.over port ≡ list_any (λ plug. is_elsewhere (g.C.Contents.tables l.contents).net plug && port_eq plug.0 port) (take l.plug-index l.plugs)
