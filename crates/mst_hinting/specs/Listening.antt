-- What a source that listens promises of the hints of what goes through it.
use Rattle.std.specs.Prelude.{◌≡◌, ◌⊎◌, ℕ, ◌<◌, ◌||◌, Bool, true, false, List, [], ◌++◌, length, Result, Ok, Err, if◌then◌else◌}
use Rattle.std.specs.Io.KnownBytes.{Appends, Consumes}
use Rattle.mst_hints.specs.declared.whose.Script.{Script}
use Rattle.mst_io.specs.Devices.{Told, Seen, Works, IsStopped, IsRead, IsCut, Hears, given, is_zero}
use Rattle.mst_io.specs.Held.{ending}
use Rattle.mst_io.specs.Written.{AppendsFront, Reads}
use Rattle.mst_io.specs.declared.devices.Failed.{Failed}
use Rattle.mst_io.specs.declared.outcome.RunFault.{RunFault}
use Rattle.mst_io.specs.declared.outcome.RunFault.TheVariants.{Read, Write, Memory}
use Rattle.mst_hinting.specs.Hinted.{Hints, HintsFront, HintsEnded, Tells, IsTold}
use Rattle.mst_hinting.specs.Kept.{IsKept}
use Rattle.mst_hinting.specs.Lines.{Before, nothing}
use Rattle.mst_hinting.specs.declared.listening.Hinting.{Hinting}
use Rattle.mst_hinting.specs.declared.telling.State.{State}
use Rattle.mst_hinting.specs.declared.telling.State.TheVariants.{Off, On, Stopped}
use Rattle.mst_hinting.specs.declared.telling.Telling.{Telling}

-- ---- what has come of the hints in the end
-- how the sink stands where this stopped them: it had failed before, and wasn't called, or it failed now; or it works
abbrev pub StoppedBy : RunFault → Told → Told → Type 0
StoppedBy Read old new = ⊥
StoppedBy Write old new = ((old.failed ≡ true) × (new ≡ old)) ⊎ IsStopped old new
StoppedBy Memory old new = Works old new

-- All were written, and nothing else: those of all lines of the script where the source was read to its end, and where it was
-- cut those of the lines that were complete in what was read
pub record AreTold (of : Script) (source source_now errors errors_now : Seen) : Type 0 where
  pub whole : IsRead source.told source_now.told → Hints of source.bytes errors.bytes errors_now.bytes
  pub cut : (turns : ℕ) → IsCut turns source.told source_now.told → HintsEnded of source.bytes source_now.bytes errors.bytes errors_now.bytes
  pub either : Hints of source.bytes errors.bytes errors_now.bytes ⊎ HintsEnded of source.bytes source_now.bytes errors.bytes errors_now.bytes
  pub works : Works errors.told errors_now.told

-- a front of them was written: this stopped them
pub record AreStopped (of : Script) (source errors errors_now : Seen) (fault : RunFault) : Type 0 where
  pub front : HintsFront of source.bytes errors.bytes errors_now.bytes
  pub by : StoppedBy fault errors.told errors_now.told

-- the one or the other, where hints are wanted, and else nothing
abbrev pub Closed : Bool → Script → Seen → Seen → Seen → Seen → Result (Unit {0}) RunFault → Type 0
Closed false of source source_now errors errors_now result = (errors_now ≡ errors) × (result ≡ Ok tt)
Closed true of source source_now errors errors_now (Ok x) = AreTold of source source_now errors errors_now
Closed true of source source_now errors errors_now (Err fault) = AreStopped of source errors errors_now fault

-- ---- how they stand before that
-- whether the source has found its end, so that it has given all of its bytes
pub record Finds (source source_now : Seen) (read : List ℕ) (at_end : Bool) : Type 0 where
  pub found : at_end ≡ true → (source.told.zeros < source_now.told.zeros) × (source_now.told.failed ≡ false) × Reads source.bytes read
  pub unfound : at_end ≡ false → (source_now.told.zeros ≡ source.told.zeros) ⊎ (source_now.told.failed ≡ true)

-- The source has given these bytes. The hints of the lines that they complete were written, but for a text that is still to be;
-- a sink that had failed before wasn't called
pub record IsTelling (of : Script) (source source_now errors errors_now : Seen) (read : List ℕ) (telling : Telling) : Type 0 where
  pub past : Before
  pub told : List ℕ
  pub consumed : Consumes source.bytes source_now.bytes read
  pub finds : Finds source source_now read telling.at_end
  pub tells : Tells (nothing of) [] read past telling.held (told ++ telling.text.items)
  pub kept : IsKept past telling.hints
  pub written : Appends errors.bytes errors_now.bytes told
  pub works : errors.told.failed ≡ false → Works errors.told errors_now.told
  pub idle : errors.told.failed ≡ true → errors_now ≡ errors

-- how it stands where these bytes were read: no hints are wanted, they are told, or this stopped them
abbrev pub StandsIn : State → Bool → Script → Seen → Seen → Seen → Seen → List ℕ → Telling → Type 0
StandsIn Off wanted of source source_now errors errors_now read telling = (wanted ≡ false) × (errors_now ≡ errors)
StandsIn On wanted of source source_now errors errors_now read telling = (wanted ≡ true) × IsTelling of source source_now errors errors_now read telling
StandsIn (Stopped fault) wanted of source source_now errors errors_now read telling = (wanted ≡ true) × AreStopped of source errors errors_now fault

abbrev pub Stands : Bool → Script → Seen → Seen → Seen → Seen → List ℕ → Telling → Type 0
Stands wanted of source source_now errors errors_now read telling = StandsIn telling.state wanted of source source_now errors errors_now read telling

abbrev pub first_state : Bool → State
first_state wanted = if wanted then On else Off

-- nothing has come yet of the script
pub record IsFirst (wanted : Bool) (of : Script) (telling : Telling) : Type 0 where
  pub state : telling.state ≡ first_state wanted
  pub kept : IsKept (nothing of) telling.hints
  pub held : telling.held ≡ []
  pub text : telling.text.items ≡ []
  pub at_end : telling.at_end ≡ false

-- where nothing was read yet of this source, and nothing written to this sink
abbrev pub Begins : {S E : Type 0} → (S → Seen) → (E → Seen) → Bool → Script → S → E → Hinting S E → Type 0
Begins source_of errors_of wanted of source errors from =
    Stands wanted of (source_of source) (source_of from.source.now) (errors_of errors) (errors_of from.errors.now) [] from.telling.now

-- What a call does that gives these bytes, whatever sink it is shown: the references stay, those that the devices were lent too, no more
-- is written than what was still to be before the call, so no hint of the lines that these bytes are of, and whatever began goes on with the
-- bytes that were read
pub record Listens {S E : Type 0} (source_of : S → Seen) (errors_of : E → Seen) (old new : Hinting S E) (bytes : List ℕ) (shown : Seen) : Type 0 where
  pub source : new.source.ghost_name ≡ old.source.ghost_name
  pub errors : new.errors.ghost_name ≡ old.errors.ghost_name
  pub lent_source : (source_of new.source.now).lent ≡ (source_of old.source.now).lent
  pub lent_errors : (errors_of new.errors.now).lent ≡ (errors_of old.errors.now).lent
  pub before : AppendsFront (errors_of old.errors.now).bytes (errors_of new.errors.now).bytes old.telling.now.text.items
  pub goes_on : (wanted : Bool) (of : Script) (source errors : Seen) (read : List ℕ)
      → Stands wanted of source (source_of old.source.now) errors (errors_of old.errors.now) read old.telling.now
      → Stands wanted of source (source_of new.source.now) errors (errors_of new.errors.now) (read ++ bytes) new.telling.now

-- what comes of the hints where it is closed, however it began and whatever was read since
abbrev pub Closes : {S E : Type 0} → (S → Seen) → (E → Seen) → Hinting S E → E → Result (Unit {0}) RunFault → Type 0
Closes source_of errors_of closed now result =
    (wanted : Bool) (of : Script) (source : _) (errors : _) (from : Hinting _ _)
    → Begins source_of errors_of wanted of source errors from
    → Hears (Listens source_of errors_of) from closed
    → Closed wanted of (source_of source) (source_of closed.source.now) (errors_of errors) (errors_of now) result

-- ---- each step of it
abbrev pub is_on : State → Bool
is_on Off = false
is_on On = true
is_on (Stopped fault) = false

abbrev pub answer_of : State → Result (Unit {0}) RunFault
answer_of Off = Ok tt
answer_of On = Ok tt
answer_of (Stopped fault) = Err fault

-- the text was written
pub record IsOut (errors errors_now : Seen) (old new : Telling) : Type 0 where
  pub on : new.state ≡ On
  pub hints : new.hints ≡ old.hints
  pub held : new.held ≡ old.held
  pub at_end : new.at_end ≡ old.at_end
  pub text : new.text.items ≡ []
  pub working : errors.told.failed ≡ false
  pub printed : Appends errors.bytes errors_now.bytes old.text.items
  pub works : Works errors.told errors_now.told

-- or a front of it was
pub record IsLost (errors errors_now : Seen) (old new : Telling) : Type 0 where
  pub stopped : new.state ≡ Stopped Write
  pub printed : AppendsFront errors.bytes errors_now.bytes old.text.items
  pub by : StoppedBy Write errors.told errors_now.told

-- the sink is called just where hints are told
pub record Wrote (errors errors_now : Seen) (old new : Telling) : Type 0 where
  pub on : is_on old.state ≡ true → IsOut errors errors_now old new ⊎ IsLost errors errors_now old new
  pub idle : is_on old.state ≡ false → (new.state ≡ old.state) × (errors_now ≡ errors)

-- bytes were taken
pub record IsTaken (bytes : List ℕ) (old new : Telling) : Type 0 where
  pub on : new.state ≡ On
  pub told : (past : Before) → IsKept past old.hints → IsTold past old.held bytes new.hints new.held old.text.items new.text.items
  pub at_end : new.at_end ≡ old.at_end

-- or there was no memory for them
pub record Took (bytes : List ℕ) (old new : Telling) : Type 0 where
  pub on : is_on old.state ≡ true → IsTaken bytes old new ⊎ (new.state ≡ Stopped Memory)
  pub idle : is_on old.state ≡ false → new.state ≡ old.state

-- whether the end was found, by what a call answered that was lent a buffer of this size
abbrev pub ends_by : Bool → Result ℕ Failed → ℕ → Bool
ends_by at_end (Err e) size = false
ends_by at_end (Ok count) size = at_end || is_zero (Ok count) size

-- what a call gave was taken
pub record IsHeard (answer : Result ℕ Failed) (buffer : List ℕ) (old new : Telling) : Type 0 where
  pub on : new.state ≡ On
  pub told : (past : Before) → IsKept past old.hints → IsTold past old.held (given answer buffer) new.hints new.held old.text.items new.text.items
  pub at_end : new.at_end ≡ ends_by old.at_end answer (length buffer)

pub record Heard (answer : Result ℕ Failed) (buffer : List ℕ) (old new : Telling) : Type 0 where
  pub on : is_on old.state ≡ true → IsHeard answer buffer old new ⊎ (new.state ≡ Stopped Memory)
  pub idle : is_on old.state ≡ false → new.state ≡ old.state

-- the last line was taken
pub record IsLast (old new : Telling) : Type 0 where
  pub on : new.state ≡ On
  pub told : (past : Before) → IsKept past old.hints → IsTold past old.held (ending old.held) new.hints [] old.text.items new.text.items

pub record Ended (old new : Telling) : Type 0 where
  pub on : is_on old.state ≡ true → old.at_end ≡ true → IsLast old new ⊎ (new.state ≡ Stopped Memory)
  pub unended : old.at_end ≡ false → new ≡ old
  pub idle : is_on old.state ≡ false → new.state ≡ old.state

-- all that is left was written, or this stopped it
abbrev pub Finishes : Seen → Seen → Telling → Result (Unit {0}) RunFault → Type 0
Finishes errors_then errors_now telling result =
    (wanted : Bool) (of : Script) (source source_now errors : Seen) (read : List ℕ)
    → Stands wanted of source source_now errors errors_then read telling
    → Closed wanted of source source_now errors errors_now result
