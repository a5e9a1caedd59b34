use Rattle.std.proofs.Common.{◌≡◌, ◌++◌, take}
use Rattle.std.specs.List.{flat_map}
use Rattle.mst_edits.specs.Edits.{port_priority_edits}
use Rattle.mst_edits.proofs.ports.add_priorities.Given as goal

-- the edits of those before it
abbrev pub invariant-loop-tree : goal.invariant-loop-tree
invariant-loop-tree g l = l.edits.items ≡ l.fn.edits.items ++ flat_map (port_priority_edits (g.C.Contents.tables l.old).net (g.D.Contents.tables l.new).net l.stays l.name) (take l.tree-index l.tree-items)
