use Rattle.std.proofs.Common.{◌≡◌, take}
use Rattle.std.specs.List.{filter_map}
use Rattle.mst_compare.specs.Seen.{seen_msti}
use Rattle.mst_compare.proofs.planned.in_mstis.Given as goal

-- what the plan has in the MSTIs so far
abbrev pub invariant-loop-tree : goal.invariant-loop-tree
invariant-loop-tree l = l.mstis ≡ filter_map (seen_msti l.view l.forest l.port) (take l.tree-index l.tree-items)
