-- What the lines of a change make of a network, and which of them are refused.
use Rattle.std.specs.Prelude.{◌≡◌, ℕ, true, List, [], ◌∷◌, ◌++◌, length, Result, Ok, Err}
use Rattle.mst_forest.specs.config.Shared.{AreRegions}
use Rattle.mst_kinds.specs.declared.kind.Kind.TheVariants as kind
use Rattle.mst_kinds.specs.declared.refusal_line.RefusalLine.TheVariants as refusal_line
use Rattle.mst_lang.specs.Faults as fault
use Rattle.mst_lang.specs.declared.line.Edit.{Edit}
use Rattle.mst_lang.specs.declared.line.Fault.{Fault}
use Rattle.mst_net.specs.tables.After.{after}
use Rattle.mst_net.specs.tables.Contents.{Contents}
use Rattle.mst_net.specs.tables.Refusals as refusal
use Rattle.mst_net.specs.tables.Tables.{Net}
use Rattle.mst_net.specs.tables.declared.refusal.Refusal.{Refusal}
use Rattle.mst_rows.specs.Cells.{number, word}
use Rattle.mst_rows.specs.Rows.{Row, row_of}
use Rattle.mst_change.specs.Reading.{LineRead}
use Rattle.mst_verdict.specs.declared.setting.Made.{Made}

-- ---- the network
-- what an edit makes of a network: nothing, where it is refused
abbrev pub kept_or : Net → Result Net Refusal → Net
kept_or net (Ok new) = new
kept_or net (Err refused) = net

-- what a line makes of it: nothing, where it isn't read
abbrev pub set_by : Net → Result Edit Fault → Net
set_by net (Err fault) = net
set_by net (Ok edit) = kept_or net (after edit net)

-- and lines, one after another
abbrev pub after_lines : Net → List LineRead → Net
after_lines net [] = net
after_lines net (line ∷ lines) = after_lines (set_by net line.read) lines

-- and steps
abbrev pub after_steps : Net → List (List LineRead) → Net
after_steps net [] = net
after_steps net (lines ∷ steps) = after_steps (after_lines net lines) steps

-- ---- lines that are refused
-- `change N CODE TEXT`, of the step of this number
abbrev pub change_row : ℕ → ℕ → List ℕ → List ℕ → Row
change_row step n code text = row_of (kind.Refusal refusal_line.StepChange) (number step ∷ number n ∷ word code ∷ word text ∷ [])

-- that of an edit, by what it makes of the network
abbrev pub rows_of_edit : ℕ → ℕ → Result Net Refusal → List Row
rows_of_edit step n (Ok new) = []
rows_of_edit step n (Err refused) = change_row step n (refusal.code_of refused) (refusal.text_of refused) ∷ []

-- that of a line, if it is refused: it isn't read, or its edit is refused
abbrev pub rows_of_read : ℕ → Net → ℕ → Result Edit Fault → List Row
rows_of_read step net n (Err read) = change_row step n (fault.code_of read) (fault.text_of read) ∷ []
rows_of_read step net n (Ok edit) = rows_of_edit step n (after edit net)

abbrev pub rows_of_line : ℕ → Net → LineRead → List Row
rows_of_line step net line = rows_of_read step net line.number line.read

-- those of a step's lines, each of which finds what those before it have made
abbrev pub refused_lines : ℕ → Net → List LineRead → List Row
refused_lines step net [] = []
refused_lines step net (line ∷ lines) = rows_of_line step net line ++ refused_lines step (set_by net line.read) lines

-- ---- what was made
-- the regions of the one network are those of the other, each bridge's under its number
abbrev pub KeepRegions : Contents → Contents → Type 0
KeepRegions old new = (region_ids : List (ℕ × ℕ)) → AreRegions old.net old.numbers region_ids → AreRegions new.net new.numbers region_ids

-- one network was made of the other so that it is this one, so many lines were refused, and where it is said that regions stand they do
pub record IsMade (old new : Contents) (net : Net) (rows : List Row) (made : Made) : Type 0 where
  pub net_is : new.net ≡ net
  pub refused : made.refused ≡ length rows
  pub regions : made.regions_stand ≡ true → KeepRegions old new
