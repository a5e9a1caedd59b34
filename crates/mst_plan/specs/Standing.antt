-- The trees that stand: as they were settled last, whatever edits were staged since.
use Rattle.std.specs.Prelude.{ℕ, ◌==◌, List, [], Option, nat_eq, if◌then◌else◌}
use Rattle.std.specs.Option.{option_and_then, option_map_or}
use Rattle.std.specs.Map.{lookup}
use Rattle.mst_vector.specs.declared.cist.CistVector.{CistVector}
use Rattle.mst_vector.specs.declared.msti.MstiVector.{MstiVector}
use Rattle.mst_outcome.specs.Assignment.{Assignment, vector_of}
use Rattle.mst_trees.specs.Bound.{KeepsBound}
use Rattle.mst_trees.specs.forest.Forest.{Forest}

-- the CIST and the MSTIs, under the numbers of records
pub record Standing : Type 0 where
  pub cist : Assignment CistVector
  pub mstis : List (ℕ × Assignment MstiVector)

-- before anything is settled, no bridge has a vector
abbrev pub nothing : Standing
nothing = record {
  cist = record { bridges = []; lans = []; touched_bridges = []; touched_lans = []; settlings = 0 };
  mstis = [];
}

-- those of a forest
abbrev pub standing_of : Forest → Standing
standing_of f = record { cist = f.cist; mstis = f.mstis }

-- an MSTI, if some bridge has it
abbrev pub msti_in : Standing → ℕ → Option (Assignment MstiVector)
msti_in s tree = lookup (nat_eq tree) s.mstis

-- the vector of a bridge in it
abbrev pub msti_vector : Standing → ℕ → ℕ → Option MstiVector
msti_vector s tree bridge = option_and_then (λ a. vector_of a bridge) (msti_in s tree)

-- how often bridges were settled in an MSTI, and in any tree
abbrev pub msti_settlings : Standing → ℕ → ℕ
msti_settlings s tree = option_map_or (λ a. a.settlings) (msti_in s tree) 0

abbrev pub settlings_of : Standing → ℕ → ℕ
settlings_of s tree = if tree == 0 then s.cist.settlings else msti_settlings s tree

-- the bound on settlings in each tree, where the one stood and the other stands now
pub record KeepsBounds (old new : Standing) : Type 0 where
  pub cist : KeepsBound (vector_of old.cist) (vector_of new.cist) new.cist.settlings
  pub mstis : (tree : ℕ) → KeepsBound (msti_vector old tree) (msti_vector new tree) (msti_settlings new tree)
