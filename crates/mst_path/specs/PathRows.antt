-- The rows of a path.
use Rattle.std.specs.Prelude.{ℕ, ◌+◌, List, [], ◌∷◌, ◌++◌, length, Option, None, Some}
use Rattle.mst_kinds.specs.declared.kind.Kind.TheVariants as kind
use Rattle.mst_kinds.specs.declared.path_line.PathLine.TheVariants as line
use Rattle.mst_rows.specs.Cells.{Cell, number, port, word}
use Rattle.mst_rows.specs.Rows.{Row, row_of}
use Rattle.mst_path.specs.Paths.{Hop}
use Rattle.mst_path.specs.declared.trace.Trace.{Trace}

-- what was asked, which each record says
abbrev pub trace_cells : Trace → List Cell
trace_cells t = number t.vid ∷ word t.from ∷ word t.to ∷ []

-- `path VID A B none`
abbrev pub no_path_row : Trace → Row
no_path_row t = row_of (kind.Path line.None) (trace_cells t)

-- `path VID A B hops N`
abbrev pub heading_row : Trace → ℕ → Row
heading_row t hops = row_of (kind.Path line.Path) (trace_cells t ++ number hops ∷ [])

-- `hop K B:P L C:Q`
abbrev pub hop_row : Trace → ℕ → Hop → Row
hop_row t k h = row_of (kind.Path line.Hop) (trace_cells t ++ number k ∷ port h.leaving.name ∷ word h.leaving.lan ∷ port h.arriving.name ∷ [])

-- of hops, of which the first has this number
abbrev pub hop_rows : Trace → ℕ → List Hop → List Row
hop_rows t k [] = []
hop_rows t k (h ∷ hops) = hop_row t k h ∷ hop_rows t (k + 1) hops

abbrev pub path_rows : Trace → Option (List Hop) → List Row
path_rows t None = no_path_row t ∷ []
path_rows t (Some hops) = heading_row t (length hops) ∷ hop_rows t 1 hops
