use Rattle.std.proofs.Common.{◌≡◌, map, take}
use Rattle.mst_text.specs.VlanSeen.{seen_port}
use Rattle.mst_text.proofs.active.active_ports.Given as goal

-- those so far
abbrev pub invariant-loop-port : goal.invariant-loop-port
invariant-loop-port l = l.active.items ≡ map (seen_port l.view l.vid) (take l.port-index l.ports)
