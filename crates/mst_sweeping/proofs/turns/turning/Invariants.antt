use Rattle.std.proofs.Common.{◌≡◌, map}
use Rattle.std.specs.List.{filter, range_with_len}
use Rattle.mst_graph.specs.Lists.{has_any}
use Rattle.mst_net.specs.tables.Tables.{Net, Numbers}
use Rattle.mst_plan.specs.forest.Agrees.{AreOf}
use Rattle.mst_plan.specs.forest.Forest.{IsForest}
use Rattle.mst_sweeping.specs.Seen.{turning_of}
use Rattle.mst_sweeping.specs.Turns.{turned}
use Rattle.mst_sweeping.proofs.turns.turning.Given as goal

-- those of the trees so far
abbrev pub invariant-loop-number : goal.invariant-loop-number
invariant-loop-number l = (a b : Net) (n k : Numbers) (is : IsForest a n l.old.forest.now) (are : IsForest b k l.new.forest.now) → AreOf a n l.old.view.now l.old.forest.now.regions → AreOf b k l.new.view.now l.new.forest.now.regions
    → map turning_of l.turning.items ≡ filter (λ t. has_any t.1) (map (λ tree. (tree, turned a is.outcome b are.outcome tree)) (range_with_len 0 l.number))
