use Rattle.std.proofs.Common.{◌≡◌, ◌+◌, length, map, take}
use Rattle.std.specs.List.{AllZip}
use Rattle.mst_net.specs.tables.Tables.{Net, Numbers}
use Rattle.mst_vlan.specs.forest.Agrees.{AreOf}
use Rattle.mst_vlan.specs.forest.Forest.{IsForest}
use Rattle.mst_sweep.specs.Left.{AreLeft}
use Rattle.mst_sweep.specs.Cuts.{names_of}
use Rattle.mst_sweep.specs.Parts.{AreParts}
use Rattle.mst_sweep.proofs.cuts.parts_of_breaking.Given as goal

-- the parts of the classes so far
abbrev pub invariant-loop-class : goal.invariant-loop-class
invariant-loop-class l = record {
  as_long : length l.parts.items ≡ l.class;
  parts : (a b : Net) (n k : Numbers) (is : IsForest a n l.fn.old.forest.now) (are : IsForest b k l.fn.new.forest.now) → AreOf a n l.fn.old.view.now l.fn.old.forest.now.regions → AreOf b k l.fn.new.view.now l.fn.new.forest.now.regions
      → AreLeft a b → AllZip (λ place parts. AreParts a is.outcome b are.outcome (place + 1) parts) (take l.class l.fn.baseline.classes.firsts.items) (map names_of l.parts.items);
}
