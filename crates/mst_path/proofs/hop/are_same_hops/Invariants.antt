use Rattle.std.proofs.Common.{◌≡◌, map, take}
use Rattle.mst_path.specs.Paths.{hops_told}
use Rattle.mst_path.specs.Places.{named_hop}
use Rattle.mst_path.proofs.hop.are_same_hops.Given as goal

-- the hops so far are the same
abbrev pub invariant-loop-place : goal.invariant-loop-place
invariant-loop-place l = hops_told (map named_hop (take l.place l.hops)) ≡ hops_told (map named_hop (take l.place l.others))
