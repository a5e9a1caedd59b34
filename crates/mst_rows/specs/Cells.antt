-- What values say.
use Rattle.std.specs.Prelude.{ℕ, Bool, List, Option}
use Rattle.mst_ids.specs.declared.name.PortName.{PortName}
use Rattle.mst_kinds.specs.declared.key.Key.{Key}
use Rattle.mst_rows.specs.declared.value.ActivePort.{ActivePort}
use Rattle.mst_rows.specs.declared.value.PromiseScope.{PromiseScope}

-- what a field of an object says
pub data Bare : Type 0 where
  nothing : Bare
  text : List ℕ → Bare
  count : ℕ → Bare

-- what is told of a promise: its line, its words, its scope, whether it is one of the end alone, in how many networks it was judged, and whether it
-- holds, which isn't known where it was in none
pub record PromiseSaid : Type 0 where
  pub line : ℕ
  pub promise : List ℕ
  pub scope : PromiseScope
  pub is_final : Bool
  pub networks : ℕ
  pub holds : Option Bool

-- what a value says: an identifier is the word that it is written as, and VIDs are their longest runs
pub data Cell : Type 0 where
  absent : Cell
  own : Cell
  word : List ℕ → Cell
  number : ℕ → Cell
  port : PortName → Cell
  vids : List (ℕ × ℕ) → Cell
  names : List (List ℕ) → Cell
  ports : List PortName → Cell
  trees : List ℕ → Cell
  groups : List (List (List ℕ)) → Cell
  active : List ActivePort → Cell
  object : List (Key × Bare) → Cell
  failed_lan : List ℕ → Cell
  failed_bridge : List ℕ → Cell
  failed_risk : List ℕ → Cell
  no_failure : Cell
  lines : ℕ → ℕ → Cell
  promises : List PromiseSaid → Cell
