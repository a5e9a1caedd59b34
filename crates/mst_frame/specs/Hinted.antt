-- The hints of a word's inputs, on standard error.
use Rattle.std.specs.Prelude.{◌≡◌, ◌⊎◌, ◌==◌, ℕ, ◌<◌, ◌&&◌, Bool, true, false, is_some, List, Option, None, Some, Result, Ok, Err, OnOk, IfErr, IsOk}
use Rattle.std.specs.Io.KnownBytes.{Appends}
use Rattle.mst_hinting.specs.Hinted.{Hints, HintsFront, HintsEnded}
use Rattle.mst_hinting.specs.Listening.{StoppedBy}
use Rattle.mst_hinting.specs.hints.declared.whose.Script.{Script}
use Rattle.mst_hinting.specs.hints.declared.whose.Script.TheVariants.{Run}
use Rattle.mst_io.specs.Devices.{Seen, Works}
use Rattle.mst_io.specs.Written.{AppendsFront}
use Rattle.mst_io.specs.declared.outcome.Outcome.{Outcome}
use Rattle.mst_io.specs.declared.outcome.RunFault.{RunFault}
use Rattle.mst_io.specs.declared.outcome.RunFault.TheVariants.{Read, Write, Memory}
use Rattle.mst_drive.specs.Words.{Inputs}
use Rattle.mst_frame.specs.declared.hinting.Scripts.{Scripts}

-- a word that has so many inputs has those whose lines have hints
pub record Fit (count : ℕ) (scripts : Scripts) : Type 0 where
  pub second : is_some scripts.second ≡ true → 1 < count
  pub third : is_some scripts.third ≡ true → 2 < count

-- the hints of all lines of what was read, or of those that an LF had ended
abbrev pub HintsEither : Script → Option (List ℕ) → Option (List ℕ) → Option (List ℕ) → Option (List ℕ) → Type 0
HintsEither of reads left written now = Hints of reads written now ⊎ HintsEnded of reads left written now

-- The hints of an input by how that ended which read it, alone or with another input: of all its lines, where it came to the end;
-- and of those that were complete, where the input itself couldn't be read so far
abbrev pub HintsBy : Bool → Result Outcome RunFault → Script → Option (List ℕ) → Option (List ℕ) → Option (List ℕ) → Option (List ℕ) → Type 0
HintsBy alone (Ok outcome) of reads left written now = Hints of reads written now
HintsBy true (Err Read) of reads left written now = HintsEnded of reads left written now
HintsBy false (Err Read) of reads left written now = HintsEither of reads left written now
HintsBy alone (Err Write) of reads left written now = HintsEither of reads left written now
HintsBy alone (Err Memory) of reads left written now = HintsEither of reads left written now

-- a front of the hints came to standard error, where this stopped them: that failed, then or before, or there was no memory
pub record StopsHints (of : Script) (reads : Option (List ℕ)) (errors now : Seen) (fault : RunFault) : Type 0 where
  pub front : HintsFront of reads errors.bytes now.bytes
  pub by : StoppedBy fault errors.told now.told

-- Where hints are asked for, those of the input came to standard error, or a front of them, where something stopped them. Else
-- nothing came
abbrev pub IsHinted : Bool → Bool → Result Outcome RunFault → Script → Option (List ℕ) → Option (List ℕ) → Seen → Seen → Result (Unit {0}) RunFault → Type 0
IsHinted false alone ended of reads left errors now hints = (now ≡ errors) × (hints ≡ Ok tt)
IsHinted true alone ended of reads left errors now (Ok x) = HintsBy alone ended of reads left errors.bytes now.bytes × Works errors.told now.told
IsHinted true alone ended of reads left errors now (Err fault) = StopsHints of reads errors now fault

-- the hints of an input are told: they are asked for, and it has some
abbrev pub are_told : Bool → Option Script → Bool
are_told hints of = hints && is_some of

-- what it is then
abbrev pub script_of : Option Script → Script
script_of None = Run
script_of (Some of) = of

-- the hints of a further input come behind those before, unless something stopped these
abbrev pub IsHintedBehind : Result (Unit {0}) RunFault → Bool → Option Script → Result Outcome RunFault → Option (List ℕ) → Option (List ℕ) → Seen → Seen → Result (Unit {0}) RunFault → Type 0
IsHintedBehind (Ok x) hints of ended reads left errors now end = IsHinted (are_told hints of) false ended (script_of of) reads left errors now end
IsHintedBehind (Err fault) hints of ended reads left errors now end = (now ≡ errors) × (end ≡ Err fault)

-- the hints of all inputs of a word that has so many
pub record AreHinted (count : ℕ) (scripts : Scripts) (hints : Bool) (ended : Result Outcome RunFault) (given left : Inputs) (errors now : Seen) (end : Result (Unit {0}) RunFault) : Type 0 where
  pub behind_first : Seen
  pub behind_second : Seen
  pub first_end : Result (Unit {0}) RunFault
  pub second_end : Result (Unit {0}) RunFault
  pub of_first : IsHinted hints (count == 1) ended scripts.first given.first left.first errors behind_first first_end
  pub of_second : IsHintedBehind first_end hints scripts.second ended given.second left.second behind_first behind_second second_end
  pub of_third : IsHintedBehind second_end hints scripts.third ended given.third left.third behind_second now end

-- ---- hints that were kept while another input's went out

-- they were told: all of them, where nothing stopped them and nothing had stopped what kept them, or a front of them
pub record IsKeptTold (kept : List ℕ) (end : Result (Unit {0}) RunFault) (errors now : Seen) (told : Result (Unit {0}) RunFault) : Type 0 where
  pub ok : OnOk told (Appends errors.bytes now.bytes kept)
  pub whole : IsOk told → IsOk end
  pub works : OnOk told (Works errors.told now.told)
  pub err : IfErr told (λ fault. AppendsFront errors.bytes now.bytes kept × StoppedBy fault errors.told now.told)

-- they were, where there are some and nothing had stopped the hints before them
abbrev pub IsToldBehind : Result (Unit {0}) RunFault → Bool → List ℕ → Result (Unit {0}) RunFault → Seen → Seen → Result (Unit {0}) RunFault → Type 0
IsToldBehind (Err fault) some kept end errors now told = (now ≡ errors) × (told ≡ Err fault)
IsToldBehind (Ok x) false kept end errors now told = (now ≡ errors) × (told ≡ Ok tt)
IsToldBehind (Ok x) true kept end errors now told = IsKeptTold kept end errors now told
