use Rattle.std.proofs.Common.{◌≡◌}
use Rattle.std.specs.List.{filter, list_any, range_with_len}
use Rattle.mst_net.specs.tables.Tables.{Net, Numbers}
use Rattle.mst_vlan.specs.forest.Agrees.{AreOf}
use Rattle.mst_vlan.specs.forest.Forest.{IsForest}
use Rattle.mst_view.specs.View.{bridge_names}
use Rattle.mst_sweep.specs.Moved.{root_moved}
use Rattle.mst_sweep.proofs.roots.moved_roots.Given as goal

-- those of the trees so far
abbrev pub invariant-loop-number : goal.invariant-loop-number
invariant-loop-number l = (a b : Net) (n k : Numbers) (is : IsForest a n l.old.forest.now) (are : IsForest b k l.new.forest.now) → AreOf a n l.old.view.now l.old.forest.now.regions → AreOf b k l.new.view.now l.new.forest.now.regions
    → l.trees.items ≡ filter (λ tree. list_any (root_moved a is.outcome b are.outcome tree) (bridge_names a)) (range_with_len 0 l.number)
