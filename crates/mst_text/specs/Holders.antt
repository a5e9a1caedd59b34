-- Which bridge has the MAC address of an identifier.
use Rattle.std.specs.Prelude.{ℕ, ◌==◌, List, Option, Some, None}
use Rattle.std.specs.List.{find}
use Rattle.std.specs.Option.{option_map}
use Rattle.std.specs.FinMap as fin
use Rattle.mst_ids.specs.Identifiers.{mac_of}
use Rattle.mst_tables.specs.Tables.{Net}
use Rattle.mst_rows.specs.Cells.{Cell, absent, word}

-- its name, if there is one: no two bridges have one MAC address
abbrev pub holder : Net → ℕ → Option (List ℕ)
holder net id = option_map (λ e. e.0) (find (λ e. e.1.mac == mac_of id) (fin.entries net.bridges))

-- a name as the value of a row, absent where there is none
abbrev pub name_or_absent : Option (List ℕ) → Cell
name_or_absent None = absent
name_or_absent (Some name) = word name

-- the name beside an identifier
abbrev pub holder_cell : Net → ℕ → Cell
holder_cell net id = name_or_absent (holder net id)
