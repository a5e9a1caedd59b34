use Rattle.std.proofs.Common.{◌≡◌, ◌+◌, length, map, take}
use Rattle.std.specs.List.{AllZip}
use Rattle.mst_net.specs.tables.Tables.{Net, Numbers}
use Rattle.mst_plan.specs.forest.Agrees.{AreOf}
use Rattle.mst_plan.specs.forest.Forest.{IsForest}
use Rattle.mst_sweep.specs.Cuts.{names_of}
use Rattle.mst_sweeping.specs.MovedVids.{ArePartsBut, IsJoinedBut, IsMoved}
use Rattle.mst_sweeping.proofs.fates.fates_at.Given as goal

-- what becomes of the VIDs at the places so far
abbrev pub invariant-loop-index : goal.invariant-loop-index
invariant-loop-index l = record {
  parts_long : length l.parts.items ≡ l.index;
  joins_long : length l.joins.items ≡ l.index;
  moves_long : length l.moves.items ≡ l.index;
  parts : (a b : Net) (n k : Numbers) (is : IsForest a n l.fn.change.old.now.forest.now) (are : IsForest b k l.fn.change.new.now.forest.now) → AreOf a n l.fn.change.old.now.view.now l.fn.change.old.now.forest.now.regions → AreOf b k l.fn.change.new.now.view.now l.fn.change.new.now.forest.now.regions
      → AllZip (λ place parts. ArePartsBut l.fn.change.leaving.now a is.outcome b are.outcome (place + 1) parts) (take l.index l.places) (map names_of l.parts.items);
  joins : (a b : Net) (n k : Numbers) (is : IsForest a n l.fn.change.old.now.forest.now) (are : IsForest b k l.fn.change.new.now.forest.now) → AreOf a n l.fn.change.old.now.view.now l.fn.change.old.now.forest.now.regions → AreOf b k l.fn.change.new.now.view.now l.fn.change.new.now.forest.now.regions
      → AllZip (λ place joins. IsJoinedBut l.fn.change.leaving.now a is.outcome b are.outcome (place + 1) joins) (take l.index l.places) l.joins.items;
  moves : (a b : Net) (n k : Numbers) (is : IsForest a n l.fn.change.old.now.forest.now) (are : IsForest b k l.fn.change.new.now.forest.now) → AreOf a n l.fn.change.old.now.view.now l.fn.change.old.now.forest.now.regions → AreOf b k l.fn.change.new.now.view.now l.fn.change.new.now.forest.now.regions
      → AllZip (λ place moves. IsMoved a is.outcome b are.outcome (place + 1) moves) (take l.index l.places) l.moves.items;
}
