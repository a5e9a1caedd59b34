use Rattle.std.proofs.Common.{◌≡◌, ◌++◌, map, take, drop}
use Rattle.mst_lag.specs.Renewed.{port_again}
use Rattle.mst_lag.proofs.renewing.renew_ports.Given as goal

-- the ports before the next are renewed
abbrev pub invariant-loop-place : goal.invariant-loop-place
invariant-loop-place g l = l.ports ≡ map (port_again (g.C.Contents.tables l.contents).net l.lan l.total) (take l.place l.fn.ports) ++ drop l.place l.fn.ports
