use Rattle.std.proofs.Common.{◌≡◌, map, take}
use Rattle.mst_path.specs.Paths.{bridges_met}
use Rattle.mst_path.specs.Places.{named_hop}
use Rattle.mst_path.proofs.met.bridges_met.Given as goal

-- the bridges of the hops so far
abbrev pub invariant-loop-hop : goal.invariant-loop-hop
invariant-loop-hop l = l.bridges.items ≡ bridges_met l.from (map named_hop (take l.hop-index l.hops))
