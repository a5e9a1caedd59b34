-- The trees of a network, as a range.
use Rattle.std.proofs.Common.{◌≡◌, refl}
use Rattle.std.specs.List.{range_with_len}
use Rattle.mst_forest.specs.AllTrees.{all_trees}

pub trees_are : range_with_len 0 4095 ≡ all_trees
unfolding all_trees
trees_are = refl
