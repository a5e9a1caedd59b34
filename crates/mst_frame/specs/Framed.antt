-- What a word that is served through the program's buffer promises of the writer behind it, and how its sources stand.
use Rattle.std.specs.Prelude.{◌≡◌, ℕ, ◌^◌, Bool, true, false, List, Option, Result, Ok, Err, IsOk}
use Rattle.std.specs.Io.KnownBytes.{append_known}
use Rattle.mst_io.specs.Devices.{Told}
use Rattle.mst_io.specs.declared.outcome.Outcome.{Outcome}
use Rattle.mst_io.specs.declared.outcome.RunFault.{RunFault}
use Rattle.mst_io.specs.declared.outcome.RunFault.TheVariants.{Read, Write, Memory}
use Rattle.mst_drive.specs.Words.{AreRead, Inputs, IsUnread, MayTell, Telling, Wrote, WroteFront}

-- How it ends, and what has come to the writer then, where this is left of the inputs: all that it tells of them, or prints where they
-- can't be read on or where there is no memory; and after a fault of the writer that has, with some bytes that never came to it, a front
-- of what it tells
abbrev pub EndsThrough : Telling → Inputs → Inputs → Option (List ℕ) → Option (List ℕ) → Result Outcome RunFault → Type 0
EndsThrough telling given left written now (Ok outcome) = Wrote written now (λ text. telling.tells given text outcome)
EndsThrough telling given left written now (Err Read) = Wrote written now (telling.cut given left)
EndsThrough telling given left written now (Err Write) = (missing : List ℕ) × WroteFront written (append_known now missing) (MayTell telling given)
EndsThrough telling given left written now (Err Memory) = Wrote written now (telling.starved given)

-- How the sources stand of a word that has so many inputs: each was read to its end where it ended well; and where the read fault is
-- told, one of them has failed, or gave no end in 2^32 calls
pub record AreTurned (count : ℕ) (first first_now second second_now third third_now : Told) (ended : Result Outcome RunFault) : Type 0 where
  pub read : IsOk ended → AreRead count first first_now second second_now third third_now
  pub cut : ended ≡ Err Read → IsUnread count (2 ^ 32) first first_now second second_now third third_now

-- the writer stopped it
abbrev pub is_broken : Result Outcome RunFault → Bool
is_broken (Ok outcome) = false
is_broken (Err Read) = false
is_broken (Err Write) = true
is_broken (Err Memory) = false
