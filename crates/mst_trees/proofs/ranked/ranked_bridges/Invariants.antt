use Rattle.std.proofs.Common.{◌≡◌, map, take}
use Rattle.mst_trees.specs.Ranked.{ranked}
use Rattle.mst_trees.proofs.ranked.ranked_bridges.Given as goal

-- the bridges before the next are there
abbrev pub invariant-loop-seen : goal.invariant-loop-seen
invariant-loop-seen l = l.bridges.items ≡ map (ranked l.view.settings) (take l.seen-index l.seen-items)
