-- Marks of the trees in which something may be set for a record.
use Rattle.std.specs.Prelude.{ℕ, ◌+◌, ◌/◌, ◌%◌, Bool, true, false, [], ◌&&◌, nat_le, List, replicate, set, slice_index_or}
use Rattle.std.specs.Option.{unwrap_or}
use Rattle.std.specs.Map.{lookup}

-- whether a tree is marked: the block of 64 trees that it is in has its flag, and its place in the block has one
abbrev pub in_block : List Bool → ℕ → Bool
in_block flags tree = slice_index_or flags (tree / 64) false && slice_index_or flags (64 + tree % 64) false

-- no tree is marked
abbrev pub no_marks : List Bool
no_marks = replicate 128 false

-- the marks with those of one more tree
abbrev pub with_tree : List Bool → ℕ → List Bool
with_tree flags tree = set (set flags (tree / 64) true) (64 + tree % 64) true

-- whether a tree is marked for a record, for which none is where nothing is kept
abbrev pub is_marked : {K : Type 0} → (K → K → Bool) → List (K × List Bool) → K → ℕ → Bool
is_marked eq marks key tree = in_block (unwrap_or (lookup (eq key) marks) []) tree

-- whether a tree is marked, and from 0, the CIST, to 4094
abbrev pub in_trees : List Bool → ℕ → Bool
in_trees flags tree = in_block flags tree && nat_le tree 4094
