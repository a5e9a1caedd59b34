use Rattle.std.proofs.Common.{◌≡◌, take}
use Rattle.mst_ids.specs.Vids.{set_where}
use Rattle.mst_view.specs.Trees.{is_among}
use Rattle.mst_classes.proofs.all.set_of.Given as goal

abbrev pub invariant-loop-vid : goal.invariant-loop-vid
invariant-loop-vid l = l.set ≡ set_where (is_among (take l.vid-index l.group))
