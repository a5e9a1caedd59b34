use Rattle.std.proofs.Common.{◌≡◌, take}
use Rattle.std.specs.List.{filter_map}
use Rattle.mst_graph.specs.Lists.{each_once}
use Rattle.mst_diff.specs.Roots.{same_pair}
use Rattle.mst_diff.specs.Seen.{pair_of}
use Rattle.mst_diff.proofs.roots.pairs.Given as goal

-- the pairs of the bridges so far
abbrev pub invariant-loop-bridge : goal.invariant-loop-bridge
invariant-loop-bridge l = l.pairs.items ≡ each_once same_pair (filter_map (pair_of l.shared.old.now l.shared.new.now l.shared.tree) (take l.bridge-index l.both))
