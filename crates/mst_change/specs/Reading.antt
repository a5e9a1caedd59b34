-- How the lines of a change are read.
use Rattle.std.specs.Prelude.{ℕ, ◌==◌, Bool, true, false, List, [], ◌∷◌, Result, Ok, Err, if◌then◌else◌}
use Rattle.mst_lang.specs.Ranges.{InRange}
use Rattle.mst_lang.specs.Reading.{reading_as, says_version_2}
use Rattle.mst_lang.specs.Words.{words}
use Rattle.mst_lang.specs.declared.line.Edit.{Edit}
use Rattle.mst_lang.specs.declared.line.Fault.{Fault}
use Rattle.mst_lang.specs.declared.line.Line.{Line}
use Rattle.mst_lang.specs.declared.line.Line.TheVariants.{Blank, Edit as edit}
use Rattle.mst_lang.specs.declared.line.Version.{Version}
use Rattle.mst_lang.specs.declared.line.Version.TheVariants.{V1, V2}

-- the version that a change's first line says
abbrev pub version_said : List ℕ → Version
version_said line = if says_version_2 line then V2 else V1

-- the version of a change, at the line of this number: the first line says it
abbrev pub version_at : Version → ℕ → List ℕ → Version
version_at known number line = if number == 1 then version_said line else known

-- how the line of this number is read. The first line of a change of version 2 says so, and nothing else
abbrev pub reading_at : Version → ℕ → List ℕ → Result Line Fault
reading_at V1 number line = reading_as V1 line
reading_at V2 number line = if number == 1 then Ok Blank else reading_as V2 line

-- the same, where this version is known before it
abbrev pub read_at : Version → ℕ → List ℕ → Result Line Fault
read_at known number line = reading_at (version_at known number line) number line

abbrev pub is_empty : List (List ℕ) → Bool
is_empty [] = true
is_empty (word ∷ words) = false

-- a line that is read and has no words stands between steps: a comment has some, and a line that is too long isn't read
abbrev pub parts_steps : Result Line Fault → List ℕ → Bool
parts_steps (Ok Blank) line = is_empty (words line)
parts_steps _ line = false

-- a line that does something: its number among all lines, and the edit that it says, or the least fault of it
pub record LineRead : Type 0 where
  pub number : ℕ
  pub read : Result Edit Fault

abbrev pub numbered : ℕ → Result Edit Fault → LineRead
numbered number read = record { number = number; read = read }

-- what it says is in its range
abbrev pub SaysInRange : Result Edit Fault → Type 0
SaysInRange (Err fault) = Unit {0}
SaysInRange (Ok e) = InRange e

abbrev pub IsInRange : LineRead → Type 0
IsInRange line = SaysInRange line.read

-- what a line that is read so does in its step, under its number: an edit, or a fault in the place of one
abbrev pub line_read : ℕ → Result Line Fault → List LineRead
line_read number (Err fault) = numbered number (Err fault) ∷ []
line_read number (Ok (edit e)) = numbered number (Ok e) ∷ []
line_read number _ = []
