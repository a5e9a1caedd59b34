use Rattle.std.proofs.Common.{◌≡◌, ◌≤◌, take}
use Rattle.std.specs.List.{count_by}
use Rattle.mst_net.specs.tables.Tables.{Net, Numbers}
use Rattle.mst_vlan.specs.forest.Agrees.{AreOf}
use Rattle.mst_vlan.specs.forest.Forest.{IsForest}
use Rattle.mst_view.specs.View.{port_names}
use Rattle.mst_sweep.specs.Left.{AreLeft}
use Rattle.mst_sweep.specs.Moved.{port_moved}
use Rattle.mst_sweep.proofs.ports.moved_in.Given as goal

-- those of the ports so far
abbrev pub invariant-loop-place : goal.invariant-loop-place
invariant-loop-place l = record {
  few : l.count ≤ l.place;
  moved : (a b : Net) (n k : Numbers) (is : IsForest a n l.old.forest.now) (are : IsForest b k l.new.forest.now) → AreOf a n l.old.view.now l.old.forest.now.regions → AreOf b k l.new.view.now l.new.forest.now.regions
      → AreLeft a b → l.count ≡ count_by (port_moved a is.outcome b are.outcome l.tree) (take l.place (port_names a));
}
