-- The text of a saved network, and what reading it does.
use Rattle.std.specs.Prelude.{◌≡◌, true, ℕ, List, [], ◌∷◌, length, ⊤, Result, Ok, ◌≤◌}
use Rattle.std.specs.List.{flat_map}
use Rattle.mst_lang.specs.Reading.{reading_as, says_version_2}
use Rattle.mst_lang.specs.declared.line.Version.TheVariants.{V2}
use Rattle.mst_lang.specs.declared.line.Fault.{Fault}
use Rattle.mst_lang.specs.declared.line.Line.{Line}
use Rattle.mst_lang.specs.declared.line.Line.TheVariants.{Edit as edit}
use Rattle.mst_lang.specs.declared.line.Edit.{Edit}
use Rattle.mst_lang.specs.declared.line.Edit.TheVariants.{SetByTree}
use Rattle.mst_lang.specs.declared.line.TreeChange.TheVariants.{Vlans}
use Rattle.mst_net.specs.tables.Tables.{Net, empty_net}
use Rattle.mst_net.specs.tables.After.{after}
use Rattle.mst_edits.specs.EditLine.{line_of}
use Rattle.mst_rows.specs.Lines.{row_line}
use Rattle.mst_edits.specs.EditRows.{save_rows}

-- the text: the lines of the rows
abbrev pub save_text : Net → List ℕ
save_text net = flat_map row_line (save_rows net)

-- ---- what reading does
-- a line that is read as an edit which isn't refused, and what it makes
abbrev pub Makes : Net → Result Line Fault → Net → Type 0
Makes net (Ok (edit e)) new = after e net ≡ Ok new
Makes net _ new = ⊥

-- lines of version 2, none of which is refused, and the network that they leave
abbrev pub Leave : Net → List (List ℕ) → Net → Type 0
Leave net [] new = net ≡ new
Leave net (line ∷ lines) new = (next : Net) × Makes net (reading_as V2 line) next × Leave next lines new

-- a script of version 2, of whose lines none is refused, and the network that it leaves
abbrev pub Restores : List (List ℕ) → Net → Type 0
Restores [] net = ⊥
Restores (first ∷ lines) net = (says_version_2 first ≡ true) × Leave empty_net lines net

-- the lines of ports' VLANs have at most 4,096 bytes
abbrev pub IsShort : Edit → Type 0
IsShort (SetByTree (Vlans port vids)) = length (line_of (SetByTree (Vlans port vids))) ≤ 4096
IsShort _ = ⊤
