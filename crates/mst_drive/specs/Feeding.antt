-- What was done with the bytes of an input that came so far.
use Rattle.std.specs.Prelude.{◌≡◌, ℕ, ◌+◌, ◌≤◌, List, ◌++◌, length, Option, Some, None}
use Rattle.mst_lang.specs.Lines.{last_line}
use Rattle.mst_io.specs.Devices.{Told, Works, IsStopped}
use Rattle.mst_io.specs.Held.{lines_held}
use Rattle.mst_io.specs.Written.{AppendsFront}
use Rattle.mst_io.specs.declared.outcome.RunFault.{RunFault}
use Rattle.mst_io.specs.declared.outcome.RunFault.TheVariants.{Read, Write, Memory}

-- The bytes were taken, and this text was printed: what follows tells from the new job on what it tells behind the text from the
-- old one on, whatever counts as the last line
pub record Feeds {J : Type 0} (tells : J → ℕ → List (List ℕ) → List ℕ → J → Type 0) (old : J) (number : ℕ) (part bytes text : List ℕ) (new : J) (now : ℕ) (left : List ℕ) : Type 0 where
  pub goes : (last : List ℕ → List (List ℕ)) (rest more : List ℕ) (after : J) → tells new now (lines_held last left rest) more after → tells old number (lines_held last part (bytes ++ rest)) (text ++ more) after
  pub few : now ≤ number + length bytes

-- something stopped it in what these lines print: a front of it went out
pub record BreaksIn {J : Type 0} (tells : J → ℕ → List (List ℕ) → List ℕ → J → Type 0) (written now : Option (List ℕ)) (old : J) (number : ℕ) (lines : List (List ℕ)) : Type 0 where
  pub text : List ℕ
  pub after : J
  pub told : tells old number lines text after
  pub front : AppendsFront written now text

-- something stopped it at these bytes, and a front of the text went out, however the input goes on
abbrev pub Breaks : {J : Type 0} → (J → ℕ → List (List ℕ) → List ℕ → J → Type 0) → Option (List ℕ) → Option (List ℕ) → J → ℕ → List ℕ → List ℕ → Type 0
Breaks tells written now old number part bytes = (rest : List ℕ) → BreaksIn tells written now old number (lines_held last_line part (bytes ++ rest))

-- a front of what the end of an input prints went out. For want of memory nothing did
abbrev pub EndsFront : {J : Type 0} → (J → ℕ → List ℕ → J → Type 0) → Option (List ℕ) → Option (List ℕ) → J → ℕ → Option RunFault → Type 0
EndsFront ends written now old number None = ⊥
EndsFront ends written now old number (Some Read) = ⊥
EndsFront {J} ends written now old number (Some Write) = (said : List ℕ) × (after : J) × ends old number said after × AppendsFront written now said
EndsFront ends written now old number (Some Memory) = now ≡ written

-- how the sink stands where the end was taken, or where this stopped it. It lacks memory where it may
abbrev pub Leaves : Type 0 → Told → Told → Option RunFault → Type 0
Leaves lacks sink now None = Works sink now
Leaves lacks sink now (Some Read) = ⊥
Leaves lacks sink now (Some Write) = IsStopped sink now
Leaves lacks sink now (Some Memory) = Works sink now × lacks
