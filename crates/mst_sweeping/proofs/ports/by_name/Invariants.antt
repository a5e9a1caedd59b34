use Rattle.std.proofs.Common.{take}
use Rattle.mst_sweeping.specs.Seen.{ArePortsByName}
use Rattle.mst_sweeping.proofs.ports.by_name.Given as goal

-- the ports so far
abbrev pub invariant-loop-port : goal.invariant-loop-port
invariant-loop-port l = ArePortsByName (take l.port-index l.ports) l.named.entries
