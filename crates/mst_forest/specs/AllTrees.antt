-- The trees of a network.
use Rattle.std.specs.Prelude.{ℕ, List}
use Rattle.std.specs.List.{range_with_len}

-- the trees 0 to 4094
unfoldable pub all_trees : List ℕ
all_trees = range_with_len 0 4095
