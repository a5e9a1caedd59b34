use Rattle.std.proofs.Common.{◌≡◌, drop}
use Rattle.mst_edits.specs.TableLines.{gathered}
use Rattle.mst_edits.proofs.tables.gathered.Given as goal

-- what is left to be looked at makes the whole
abbrev pub invariant-loop-tree : goal.invariant-loop-tree
invariant-loop-tree l = gathered l.name l.table l.all (drop l.tree-index l.trees) ≡ gathered l.name l.table l.fn.vids l.trees
