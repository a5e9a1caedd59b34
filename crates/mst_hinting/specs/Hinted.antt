-- What telling the hints of a script, of a policy or of a change promises. `of` says which of them it is, and "script" stands for each.
use Rattle.std.specs.Prelude.{◌≡◌, ℕ, ◌+◌, ◌≤◌, List, ◌++◌, length, Option}
use Rattle.std.specs.Io.KnownBytes.{Appends, Consumes}
use Rattle.mst_lang.specs.Lines.{lines_of, ended_lines}
use Rattle.mst_hints.specs.declared.whose.Script.{Script}
use Rattle.mst_io.specs.Held.{lines_held}
use Rattle.mst_io.specs.Written.{AppendsFront, Reads}
use Rattle.mst_hinting.specs.Kept.{IsKept}
use Rattle.mst_hinting.specs.Lines.{Before, hints_from, hints_of, number_at}
use Rattle.mst_hinting.specs.declared.lines.LineHints.{LineHints}

-- the hints of all of the script's lines were written, and nothing else
pub record Hints (of : Script) (reads written now : Option (List ℕ)) : Type 0 where
  pub script : List ℕ
  pub read : Reads reads script
  pub printed : Appends written now (hints_of of (lines_of script))

-- a front of them was
pub record HintsFront (of : Script) (reads written now : Option (List ℕ)) : Type 0 where
  pub script : List ℕ
  pub read : Reads reads script
  pub printed : AppendsFront written now (hints_of of (lines_of script))

-- The reader has given these bytes, as far as it tells, and has these left. The hints of the lines that they complete were
-- written, and nothing else
pub record HintsEnded (of : Script) (reads left written now : Option (List ℕ)) : Type 0 where
  pub read : List ℕ
  pub consumed : Consumes reads left read
  pub printed : Appends written now (hints_of of (ended_lines read))

-- ---- what was done with the bytes of a script that came so far
-- The bytes were taken, and this is the text of the hints of the lines that they complete: what follows goes on from there,
-- whatever counts as the last line
pub record Tells (past : Before) (part bytes : List ℕ) (now : Before) (left text : List ℕ) : Type 0 where
  pub lines : (last : List ℕ → List (List ℕ)) (rest : List ℕ) → hints_from past (lines_held last part (bytes ++ rest)) ≡ text ++ hints_from now (lines_held last left rest)
  pub few : number_at now ≤ number_at past + length bytes

-- and the text was appended
pub record IsTold (past : Before) (part bytes : List ℕ) (hints : LineHints) (left old new : List ℕ) : Type 0 where
  pub now : Before
  pub text : List ℕ
  pub tells : Tells past part bytes now left text
  pub kept : IsKept now hints
  pub appended : new ≡ old ++ text
