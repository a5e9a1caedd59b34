-- The rows of an advice, but for what its edits do.
use Rattle.std.specs.Prelude.{ℕ, ◌*◌, List, [], ◌∷◌, Option, None, Some}
use Rattle.mst_kinds.specs.declared.advise_line.AdviseLine.TheVariants as line
use Rattle.mst_kinds.specs.declared.kind.Kind.TheVariants as kind
use Rattle.mst_rows.specs.Cells.{word, names, number}
use Rattle.mst_rows.specs.Rows.{Row, row_of}
use Rattle.mst_advise.specs.declared.hindrance.Hindrance.{Hindrance}
use Rattle.mst_advise.specs.declared.hindrance.Hindrance.TheVariants.{Off, Down, Restricted}
use Rattle.mst_advise.specs.declared.setting.Setting.{Setting}
use Rattle.mst_advise.specs.declared.setting.Setting.TheVariants.{Priority, PortPriority, ExternalCost, InternalCost}

-- `edit settreeprio B T PRIO`, with a priority from 0 to 61440; `edit settreeportprio B P T PRIO`, with one from 0 to 240;
-- `edit setportpathcost B P COST`; `edit settreeportcost B P T COST`
abbrev pub setting_row : Setting → Row
setting_row (Priority bridge tree priority) = row_of (kind.Advise line.Priority) (word bridge ∷ number tree ∷ number (priority * 4096) ∷ [])
setting_row (PortPriority port tree priority) = row_of (kind.Advise line.PortPriority) (word port.bridge ∷ number port.number ∷ number tree ∷ number (priority * 16) ∷ [])
setting_row (ExternalCost port cost) = row_of (kind.Advise line.ExternalCost) (word port.bridge ∷ number port.number ∷ number cost ∷ [])
setting_row (InternalCost port tree cost) = row_of (kind.Advise line.InternalCost) (word port.bridge ∷ number port.number ∷ number tree ∷ number cost ∷ [])

-- `advise edits N`
abbrev pub count_row : ℕ → Row
count_row n = row_of (kind.Advise line.Counts) (number n ∷ [])

-- `because off B`, `because down L`, `because restricted`
abbrev pub hindrance_row : Hindrance → Row
hindrance_row (Off bridge) = row_of (kind.Advise line.BecauseOff) (word bridge ∷ [])
hindrance_row (Down lan) = row_of (kind.Advise line.BecauseDown) (word lan ∷ [])
hindrance_row Restricted = row_of (kind.Advise line.BecauseRestricted) []

-- `because apart B,..`, if there are such bridges; else `because tried N`, of so many candidates
abbrev pub still_row : List (List ℕ) → ℕ → Row
still_row [] tried = row_of (kind.Advise line.BecauseTried) (number tried ∷ [])
still_row (bridge ∷ more) tried = row_of (kind.Advise line.BecauseApart) (names (bridge ∷ more) ∷ [])

-- by what is in the way, if something is
abbrev pub because_row : Option Hindrance → List (List ℕ) → ℕ → Row
because_row (Some hindrance) apart tried = hindrance_row hindrance
because_row None apart tried = still_row apart tried

-- `advise none`
abbrev pub none_row : Row
none_row = row_of (kind.Advise line.None) []
