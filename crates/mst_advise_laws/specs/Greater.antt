-- Greater priorities than the one that is advised.
use Rattle.std.specs.Prelude.{◌≡◌, ℕ, ◌<◌, ◌≤◌, List, [], ◌∷◌, Ok}
use Rattle.mst_tables.specs.After.{after}
use Rattle.mst_tables.specs.Tables.{Net}
use Rattle.mst_forest.specs.Outcome.{Outcome, IsOutcome}
use Rattle.mst_advise.specs.Candidates.{AreCandidates}
use Rattle.mst_advise.specs.Made.{Has}
use Rattle.mst_advise.specs.Settings.{edit_of}
use Rattle.mst_advise.specs.declared.goal.Goal.TheVariants.{Root}
use Rattle.mst_advise.specs.declared.setting.Setting.{Setting}
use Rattle.mst_advise.specs.declared.setting.Setting.TheVariants.{Priority}

-- that a bridge may be the root of a tree there is one candidate, and it sets this priority of the bridge alone
abbrev pub IsAdvised : Net → Outcome → ℕ → List ℕ → ℕ → Type 0
IsAdvised net o tree b p = AreCandidates net o (Root tree b) ((Priority b tree p ∷ []) ∷ [])

-- a setting makes this network of another one, and it has this settled outcome
pub record IsMade (net : Net) (setting : Setting) (now : Net) (r : Outcome) : Type 0 where
  pub is_made : after (edit_of setting) net ≡ Ok now
  pub is_outcome : IsOutcome now r

-- with no priority of B in the tree that is greater than p, to 15, is B its one root, whichever settled outcome the network has then
abbrev pub NoGreaterSuffices : Net → ℕ → List ℕ → ℕ → Type 0
NoGreaterSuffices net tree b p = (q : ℕ) → p < q → q ≤ 15 → (now : Net) (r : Outcome) → IsMade net (Priority b tree q) now r → Has (Root tree b) now r → ⊥
