-- The text of the edits from one network to another, and what reading it does.
use Rattle.std.specs.Prelude.{◌≡◌, true, ℕ, List, [], ◌∷◌, map, Ok}
use Rattle.std.specs.List.{flat_map}
use Rattle.mst_lang.specs.Reading.{reading_as, says_version_2}
use Rattle.mst_lang.specs.declared.line.Version.TheVariants.{V2}
use Rattle.mst_lang.specs.declared.line.Line.TheVariants.{Edit as edit}
use Rattle.mst_lang.specs.declared.line.Edit.{Edit}
use Rattle.mst_net.specs.tables.Tables.{Net}
use Rattle.mst_rows.specs.Lines.{row_line}
use Rattle.mst_edits.specs.SaveText.{Leave}
use Rattle.mst_edits.specs.EditRows.{change_rows}

-- the text: the lines of the rows
abbrev pub edits_text : Net → Net → List ℕ
edits_text a b = flat_map row_line (change_rows a b)

-- ---- what reading does
-- a script of version 2, each of whose lines behind the first is read as its edit, in their order
abbrev pub ReadAs : List (List ℕ) → List Edit → Type 0
ReadAs [] edits = ⊥
ReadAs (first ∷ lines) edits = (says_version_2 first ≡ true) × (map (reading_as V2) lines ≡ map (λ e. Ok (edit e)) edits)

-- a script of version 2 that is served from a network on: none of its lines is refused, and it leaves another one
abbrev pub ChangesInto : List (List ℕ) → Net → Net → Type 0
ChangesInto [] a b = ⊥
ChangesInto (first ∷ lines) a b = (says_version_2 first ≡ true) × Leave a lines b
