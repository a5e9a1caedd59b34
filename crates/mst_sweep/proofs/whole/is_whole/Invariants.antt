use Rattle.std.proofs.Common.{nat_eq, take}
use Rattle.std.specs.List.{AllByRecursion}
use Rattle.indexmap.specs.IndexMap.{get}
use Rattle.mst_sweep.proofs.Unbroken.{IsPlaced}
use Rattle.mst_sweep.proofs.whole.is_whole.Given as goal

-- of each of the bridges so far the place afterwards is kept under that before
abbrev pub invariant-loop-bridge : goal.invariant-loop-bridge
invariant-loop-bridge l = AllByRecursion (IsPlaced (get nat_eq l.places)) (take l.bridge-index l.all)
