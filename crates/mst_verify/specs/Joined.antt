-- Bridges that a VID joins, and the paths between them.
use Rattle.std.specs.Prelude.{◌≢◌, ℕ, Bool, List, Some}
use Rattle.std.specs.List.{Contains}
use Rattle.mst_net.specs.tables.Tables.{Net}
use Rattle.mst_path.specs.Paths.{Hop, IsPathOf}
use Rattle.mst_roles.specs.forest.Outcome.{Outcome}
use Rattle.mst_island_judges.specs.judged.reasons.Holds.{AreTogether}
use Rattle.mst_island_judges.specs.judged.reasons.Named.{vids_in}

-- no two of these bridges are in one island of one of the VIDs
abbrev pub NoTwoTogether : Net → Outcome → List Bool → List (List ℕ) → Type 0
NoTwoTogether net o vids bridges =
    (vid : ℕ) → Contains (vids_in vids) vid → (a b : List ℕ) → Contains bridges a → Contains bridges b → a ≢ b → AreTogether net o vid a b → ⊥

-- there is a path from a to b in each of the VIDs
abbrev pub AllHavePath : Net → Outcome → List Bool → List ℕ → List ℕ → Type 0
AllHavePath net o vids a b = (vid : ℕ) → Contains (vids_in vids) vid → (path : List Hop) × IsPathOf net o vid a b (Some path)
