-- The same rows with their sides changed over.
use Rattle.std.specs.Prelude.{◌≡◌, List, [], ◌∷◌, ◌++◌, map}
use Rattle.mst_kinds.specs.declared.kind.Kind.{Kind}
use Rattle.mst_rows.specs.Cells.{Cell}
use Rattle.mst_rows.specs.Rows.{Row, row_of}
use Rattle.mst_diff.specs.Reach.{Sides}

-- a row of two sides: its kind, its first values, and the value of each side
pub record Sided : Type 0 where
  pub kind : Kind
  pub head : List Cell
  pub old : Cell
  pub new : Cell

abbrev pub sided_row : Sided → Row
sided_row s = row_of s.kind (s.head ++ s.old ∷ s.new ∷ [])

abbrev pub turned_row : Sided → Row
turned_row s = row_of s.kind (s.head ++ s.new ∷ s.old ∷ [])

-- two lists have the same rows, in the same order, with their sides changed over
abbrev pub AreTurned : List Row → List Row → Type 0
AreTurned rows others = (sided : List Sided) × (rows ≡ map sided_row sided) × (others ≡ map turned_row sided)

-- the sides of a VID changed over
abbrev pub turned_sides : Sides → Sides
turned_sides s = record { old = s.new; new = s.old }
