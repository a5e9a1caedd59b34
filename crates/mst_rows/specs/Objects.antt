-- The objects that values may be: of each its fields.
use Rattle.std.specs.Prelude.{ℕ, List, [], ◌∷◌, codes}
use Rattle.mst_kinds.specs.declared.key.Key.TheVariants as key
use Rattle.mst_kinds.specs.declared.key.Key.{Key}
use Rattle.mst_rows.specs.Cells.{Bare, nothing, text, count}

-- a priority vector of the CIST: `ROOT EXT REGIONAL INT DESIGNATED PORT RECEIVER`
abbrev pub cist_vector : List ℕ → ℕ → List ℕ → ℕ → List ℕ → List ℕ → List ℕ → List (Key × Bare)
cist_vector root ext regional int designated port receiver =
    (key.RootId, text root) ∷ (key.Ext, count ext) ∷ (key.RegionalId, text regional) ∷ (key.Int, count int)
    ∷ (key.DesignatedId, text designated) ∷ (key.DesignatedPortId, text port) ∷ (key.ReceiverId, text receiver) ∷ []

-- one of an MSTI: `REGIONAL INT DESIGNATED PORT RECEIVER`
abbrev pub msti_vector : List ℕ → ℕ → List ℕ → List ℕ → List ℕ → List (Key × Bare)
msti_vector regional int designated port receiver =
    (key.RegionalId, text regional) ∷ (key.Int, count int)
    ∷ (key.DesignatedId, text designated) ∷ (key.DesignatedPortId, text port) ∷ (key.ReceiverId, text receiver) ∷ []

-- what tells a region: `NAME REV FIRST`, and `rstp - FIRST`
abbrev pub mstp_region : List ℕ → ℕ → List ℕ → List (Key × Bare)
mstp_region name revision first = (key.Name, text name) ∷ (key.Revision, count revision) ∷ (key.Region, text first) ∷ []

abbrev pub rstp_region : List ℕ → List (Key × Bare)
rstp_region first = (key.RegionKind, text (codes "rstp")) ∷ (key.Revision, nothing) ∷ (key.Region, text first) ∷ []
