use Rattle.std.proofs.Common.{◌≡◌, ◌++◌, take}
use Rattle.std.specs.List.{flat_map}
use Rattle.mst_edits.specs.Edits.{lan_edits}
use Rattle.mst_edits.proofs.lans.add_lans.Given as goal

-- the edits of those before it
abbrev pub invariant-loop-name : goal.invariant-loop-name
invariant-loop-name g l = l.edits.items ≡ l.fn.edits.items ++ flat_map (lan_edits l.in_place (g.C.Contents.tables l.old).net (g.D.Contents.tables l.new).net) (take l.name-index l.name-items)
