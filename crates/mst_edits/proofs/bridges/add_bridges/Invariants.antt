use Rattle.std.proofs.Common.{false, ◌≡◌, ◌++◌, take}
use Rattle.std.specs.List.{flat_map}
use Rattle.mst_edits.specs.Edits.{bridge_part}
use Rattle.mst_edits.proofs.bridges.add_bridges.Given as goal

-- the edits of those before it
abbrev pub invariant-loop-name : goal.invariant-loop-name
invariant-loop-name g l = l.edits.items ≡ l.fn.edits.items ++ flat_map (bridge_part false (g.C.Contents.tables l.old).net (g.D.Contents.tables l.new).net) (take l.name-index l.name-items)
