use Rattle.std.proofs.Common.{◌≡◌, ◌++◌, take}
use Rattle.std.specs.List.{flat_map}
use Rattle.mst_picture.specs.InView.{node_at}
use Rattle.mst_picture.proofs.clusters.push_nodes.Given as goal

-- the bridges so far
abbrev pub invariant-loop-number : goal.invariant-loop-number
invariant-loop-number l = l.out.items ≡ l.fn.out.items ++ flat_map (node_at l.plan l.vid) (take l.number-index l.numbers)
