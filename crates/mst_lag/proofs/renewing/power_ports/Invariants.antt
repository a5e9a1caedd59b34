use Rattle.std.proofs.Common.{◌≡◌, ◌++◌, map, take, drop}
use Rattle.mst_lag.specs.Renewed.{port_powered}
use Rattle.mst_lag.proofs.renewing.power_ports.Given as goal

-- the ports before the next are renewed
abbrev pub invariant-loop-place : goal.invariant-loop-place
invariant-loop-place l = l.ports ≡ map (port_powered l.bridge l.is_on) (take l.place l.fn.ports) ++ drop l.place l.fn.ports
