use Rattle.std.proofs.Common.{◌≡◌, map, take}
use Rattle.mst_vlan.specs.Seen.{as_island}
use Rattle.mst_vlan.proofs.reaching.listed.Given as goal

abbrev pub invariant-loop-island : goal.invariant-loop-island
invariant-loop-island l = map as_island l.islands.items ≡ take l.island-index l.joined
