use Rattle.std.proofs.Common.{◌≡◌, ◌++◌, map, take, drop}
use Rattle.mst_lag.specs.Renewed.{lan_again}
use Rattle.mst_lag.proofs.renewing.renew_lans.Given as goal

-- the LANs before the next are renewed
abbrev pub invariant-loop-place : goal.invariant-loop-place
invariant-loop-place l = l.lans ≡ map (lan_again l.lan l.total) (take l.place l.fn.lans) ++ drop l.place l.fn.lans
