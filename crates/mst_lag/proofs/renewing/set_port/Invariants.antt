use Rattle.std.proofs.Common.{◌≡◌, ◌++◌, map, take, drop}
use Rattle.mst_lag.specs.Renewed.{port_set}
use Rattle.mst_lag.proofs.renewing.set_port.Given as goal

-- the ports before the next are renewed
abbrev pub invariant-loop-place : goal.invariant-loop-place
invariant-loop-place l = l.ports ≡ map (port_set l.port l.settings) (take l.place l.fn.ports) ++ drop l.place l.fn.ports
