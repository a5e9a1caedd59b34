use Rattle.std.proofs.Common.{◌≡◌, map, take}
use Rattle.mst_vlan.specs.Carried.{names_of}
use Rattle.mst_vlan.proofs.comparing.have_same_ports.Given as goal

-- the names are the same so far
abbrev pub invariant-loop-place : goal.invariant-loop-place
invariant-loop-place l = map names_of (take l.place l.ports) ≡ map names_of (take l.place l.others)
