use Rattle.std.proofs.Common.{◌≡◌, ◌++◌, take}
use Rattle.std.specs.List.{flat_map}
use Rattle.mst_edits.specs.Edits.{del_bridge_edits}
use Rattle.mst_edits.proofs.going.add_del_bridges.Given as goal

-- the edits of those before it
abbrev pub invariant-loop-bridge : goal.invariant-loop-bridge
invariant-loop-bridge g l = l.edits.items ≡ l.fn.edits.items ++ flat_map (del_bridge_edits (g.C.Contents.tables l.old).net (g.D.Contents.tables l.new).net) (take l.bridge-index l.bridge-items)
