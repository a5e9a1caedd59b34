use Rattle.std.proofs.Common.{◌≡◌, ◌++◌, take}
use Rattle.std.specs.List.{flat_map}
use Rattle.mst_edits.specs.Edits.{del_lan_edits}
use Rattle.mst_edits.proofs.going.add_del_lans.Given as goal

-- the edits of those before it
abbrev pub invariant-loop-lan : goal.invariant-loop-lan
invariant-loop-lan g l = l.edits.items ≡ l.fn.edits.items ++ flat_map (del_lan_edits (g.D.Contents.tables l.new).net) (take l.lan-index l.lan-items)
