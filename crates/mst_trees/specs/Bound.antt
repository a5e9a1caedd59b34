-- How often bridges of a tree were settled, by how many changed; and of all trees of a forest.
use Rattle.std.specs.Prelude.{◌≡◌, ◌≢◌, ◌↔◌, ℕ, ◌*◌, ◌≤◌, List, length, Option, None, false}
use Rattle.std.specs.List.{Contains}
use Rattle.std.specs.List.Sorted.{IsStrictlyIncreasing}
use Rattle.mst_forest.specs.outcome.Assignment.{vector_of}
use Rattle.mst_forest.specs.topology.Repair.{CountsVectors}
use Rattle.mst_net.specs.tables.Tables.{Net}
use Rattle.mst_forest.specs.Msti.{has_msti}
use Rattle.mst_forest.specs.Forest.{Forest, msti_settlings, msti_vector}

-- how often bridges of one tree were settled, where its vectors were `before` and are `after`: as often at least
-- as there are bridges whose vector differs and that have one afterwards, and at most twice as often as there are
-- bridges whose vector differs, or once as often, where no bridge had a vector before
pub record KeepsBound {V : Type 0} (before after : ℕ → Option V) (settlings : ℕ) : Type 0 where
  pub changed : List ℕ
  pub changed_ascend : IsStrictlyIncreasing changed
  pub are_changed : (n : ℕ) → Contains changed n ↔ (before n ≢ after n)
  pub settled : List ℕ
  pub settled_ascend : IsStrictlyIncreasing settled
  pub are_settled : (n : ℕ) → Contains settled n ↔ ((before n ≢ after n) × (after n ≢ None))
  pub at_least : length settled ≤ settlings
  pub at_most : settlings ≤ 2 * length changed
  pub from_nothing : ((n : ℕ) → before n ≡ None) → settlings ≤ length changed

-- in an MSTI that no bridge of the network has no bridge was settled
abbrev pub SettlesNoUnused : Net → (settlings : ℕ → ℕ) → Type 0
SettlesNoUnused net settlings = (tree : ℕ) → ((name : List ℕ) → has_msti net tree name ≡ false) → settlings tree ≡ 0

-- each bridge was settled once in each tree that it is in
pub record IsSettledOnce (f : Forest) : Type 0 where
  pub cist : CountsVectors (vector_of f.cist) f.cist.settlings
  pub mstis : (tree : ℕ) → CountsVectors (msti_vector f tree) (msti_settlings f tree)

-- in each tree bridges were settled within the bound, from the vectors of the old forest. A tree that a forest
-- doesn't have has no vectors and no settlings in it
pub record KeepsBounds (old new : Forest) : Type 0 where
  pub cist : KeepsBound (vector_of old.cist) (vector_of new.cist) new.cist.settlings
  pub mstis : (tree : ℕ) → KeepsBound (msti_vector old tree) (msti_vector new tree) (msti_settlings new tree)
