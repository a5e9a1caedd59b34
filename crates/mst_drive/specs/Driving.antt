-- What giving a job an input promises, whatever the job.
use Rattle.std.specs.Prelude.{ℕ, ◌<◌, ◌^◌, ◌⊎◌, List, [], ◌++◌, Option, Some, None}
use Rattle.std.specs.Io.KnownBytes.{Appends, Consumes}
use Rattle.mst_lang.specs.Lines.{last_line, no_line}
use Rattle.mst_io.specs.Devices.{HoldsNothing, Seen, Told, Works, IsBroken, IsCut, IsRead}
use Rattle.mst_io.specs.Held.{lines_held}
use Rattle.mst_io.specs.Written.{AppendsFront, Reads}
use Rattle.mst_io.specs.declared.outcome.RunFault.{RunFault}
use Rattle.mst_io.specs.declared.outcome.RunFault.TheVariants.{Read, Write, Memory}

-- the job took all lines of the input, and its end, and what it says of them was written
pub record Driven {J : Type 0} (awaits : J → ℕ → Type 0) (tells : J → ℕ → List (List ℕ) → List ℕ → J → Type 0) (ends : J → ℕ → List ℕ → J → Type 0) (old new : J) (reads written now : Option (List ℕ)) : Type 0 where
  pub bytes : List ℕ
  pub text : List ℕ
  pub job : J
  pub number : ℕ
  pub said : List ℕ
  pub read : Reads reads bytes
  pub told : tells old 1 (lines_held last_line [] bytes) text job
  pub waits : awaits job number
  pub few : number < 2 ^ 60
  pub ended : ends job number said new
  pub printed : Appends written now (text ++ said)

-- the same of all lines, and the end printed nothing
pub record DrivenLines {J : Type 0} (tells : J → ℕ → List (List ℕ) → List ℕ → J → Type 0) (old : J) (reads written now : Option (List ℕ)) : Type 0 where
  pub bytes : List ℕ
  pub text : List ℕ
  pub job : J
  pub read : Reads reads bytes
  pub told : tells old 1 (lines_held last_line [] bytes) text job
  pub printed : Appends written now text

-- a front of what the lines print was written, or all of that and a front of what the end prints
pub record DrivenFront {J : Type 0} (tells : J → ℕ → List (List ℕ) → List ℕ → J → Type 0) (ends : J → ℕ → List ℕ → J → Type 0) (old : J) (reads written now : Option (List ℕ)) : Type 0 where
  pub bytes : List ℕ
  pub text : List ℕ
  pub job : J
  pub read : Reads reads bytes
  pub told : tells old 1 (lines_held last_line [] bytes) text job
  pub front : AppendsFront written now text ⊎ ((number : ℕ) × (said : List ℕ) × (after : J) × ends job number said after × AppendsFront written now (text ++ said))

-- the job took the lines that were complete in what was read, and the whole of what they print was written, and nothing else
pub record DrivenEnded {J : Type 0} (tells : J → ℕ → List (List ℕ) → List ℕ → J → Type 0) (old : J) (reads left written now : Option (List ℕ)) : Type 0 where
  pub read : List ℕ
  pub text : List ℕ
  pub job : J
  pub consumed : Consumes reads left read
  pub told : tells old 1 (lines_held no_line [] read) text job
  pub printed : Appends written now text

-- how all stands before each call of the source: the whole of what the lines print that were complete has gone out, and nothing is held
-- back
abbrev pub DrivenOn : {J S : Type 0} → (J → ℕ → List (List ℕ) → List ℕ → J → Type 0) → J → Option (List ℕ) → (S → Option (List ℕ)) → Seen → S → Seen → Type 0
DrivenOn tells old reads remaining before source sink = HoldsNothing before sink × DrivenEnded tells old reads (remaining source) before.bytes sink.bytes

-- How both devices stand where an input was given to its end, or was stopped by this fault. For want of memory both work, and the source
-- has ended
abbrev pub Halts : ℕ → Told → Told → Told → Told → Option RunFault → Type 0
Halts turns source source_now sink sink_now None = IsRead source source_now × Works sink sink_now
Halts turns source source_now sink sink_now (Some Read) = IsCut turns source source_now × Works sink sink_now
Halts turns source source_now sink sink_now (Some Write) = IsBroken sink sink_now
Halts turns source source_now sink sink_now (Some Memory) = IsRead source source_now × Works sink sink_now
