use Rattle.std.proofs.Common.{◌≡◌, ◌+◌, length, map, take}
use Rattle.std.specs.List.{AllZip}
use Rattle.std.specs.Option.{option_map}
use Rattle.mst_net.specs.tables.Tables.{Net, Numbers}
use Rattle.mst_vlan.specs.forest.Agrees.{AreOf}
use Rattle.mst_vlan.specs.forest.Forest.{IsForest}
use Rattle.mst_sweep.specs.CutClasses.{IsKeptAlone}
use Rattle.mst_sweep.specs.Left.{AreLeft}
use Rattle.mst_sweep.proofs.single.homes_of_breaking.Given as goal

-- what is kept of the classes so far
abbrev pub invariant-loop-class : goal.invariant-loop-class
invariant-loop-class l = record {
  as_long : length l.homes.items ≡ l.class;
  homes : (a b : Net) (n k : Numbers) (is : IsForest a n l.fn.old.forest.now) (are : IsForest b k l.fn.new.forest.now) → AreOf a n l.fn.old.view.now l.fn.old.forest.now.regions → AreOf b k l.fn.new.view.now l.fn.new.forest.now.regions
      → AreLeft a b → AllZip (λ place kept. IsKeptAlone a is.outcome b k are.outcome (place + 1) kept) (take l.class l.fn.baseline.classes.firsts.items) (map (option_map (λ h. h.entries)) l.homes.items);
}
