-- How often bridges of a tree were settled, by the names of bridges.
use Rattle.std.specs.Prelude.{◌≡◌, ◌≢◌, ◌↔◌, ℕ, ◌*◌, ◌≤◌, List, length, Option, Some, None}
use Rattle.std.specs.FinMap as fin
use Rattle.std.specs.List.{Contains, AllPairs}
use Rattle.mst_net.specs.tables.Contents.{Contents, IsNumbered}
use Rattle.mst_net.specs.tables.Tables.{Numbers, IsNetwork}
use Rattle.mst_trees.specs.forest.Forest.{Forest, IsForest}
use Rattle.mst_trees.specs.forest.Outcome.{Outcome}
use Rattle.mst_plan.specs.Standing.{Standing, msti_settlings}

-- where the vectors of one tree were `before` and are `after`: as often at least as there are bridges whose vector differs
-- and that have one afterwards, and at most twice as often as there are bridges whose vector differs. Each name is listed once
pub record KeepsBoundByName {V : Type 0} (before after : List ℕ → Option V) (settlings : ℕ) : Type 0 where
  pub changed : List (List ℕ)
  pub changed_once : AllPairs (λ a b. a ≢ b) changed
  pub are_changed : (name : List ℕ) → Contains changed name ↔ (before name ≢ after name)
  pub settled : List (List ℕ)
  pub settled_once : AllPairs (λ a b. a ≢ b) settled
  pub are_settled : (name : List ℕ) → Contains settled name ↔ ((before name ≢ after name) × (after name ≢ None))
  pub at_least : length settled ≤ settlings
  pub at_most : settlings ≤ 2 * length changed

-- in each tree, where these are the outcomes before and after
pub record KeepBoundsByName (before after : Outcome) (s : Standing) : Type 0 where
  pub cist : KeepsBoundByName before.cist.vector after.cist.vector s.cist.settlings
  pub mstis : (tree : ℕ) → KeepsBoundByName (before.msti tree).vector (after.msti tree).vector (msti_settlings s tree)

-- in each tree, where no bridge had a vector before
pub record KeepFirstBounds (after : Outcome) (s : Standing) : Type 0 where
  pub cist : KeepsBoundByName (λ name. None) after.cist.vector s.cist.settlings
  pub mstis : (tree : ℕ) → KeepsBoundByName (λ name. None) (after.msti tree).vector (msti_settlings s tree)

-- these trees are those of the network of these contents, settled
pub record StandsFor (contents : Contents) (f : Forest) : Type 0 where
  pub network : IsNetwork contents.net
  pub numbered : IsNumbered contents.net contents.numbers
  pub forest : IsForest contents.net contents.numbers f

-- a bridge that is in both has one number in both, and no number went from one bridge to another: none was taken away and
-- added again
pub record KeepNumbers (old new : Numbers) : Type 0 where
  pub same : (name : List ℕ) (m n : ℕ) → fin.get old.bridges name ≡ Some m → fin.get new.bridges name ≡ Some n → m ≡ n
  pub one : (a b : List ℕ) (n : ℕ) → fin.get old.bridges a ≡ Some n → fin.get new.bridges b ≡ Some n → a ≡ b
