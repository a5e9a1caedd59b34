-- What a device tells of its calls, and which device ended a run.
use Rattle.std.specs.Prelude.{◌≡◌, ℕ, List, [], ◌∷◌, take, ◌+◌, ◌<◌, ◌≤◌, ◌==◌, ◌&&◌, ◌||◌, ◌^◌, ◌-◌, ◌⊎◌, Bool, true, false, not, Option, Some, None, Result, Ok, Err, is_err, if◌then◌else◌}
use Rattle.std.specs.Borrow.{GName}
use Rattle.mst_io.specs.declared.devices.Failed.{Failed}
use Rattle.mst_io.specs.declared.lent.Count.{Count}
use Rattle.mst_io.specs.declared.outcome.RunFault.{RunFault}
use Rattle.mst_io.specs.declared.outcome.RunFault.TheVariants.{Read, Write, Memory}

-- What a device tells: whether it has failed; how many calls it has answered, one with an error included; how many bytes
-- went through in them; how many of these answered 0 though there was a byte to take, or room for one; whether the last
-- one did; and whether one came since it was last flushed, so that it may hold back some of what it took
pub record Told : Type 0 where
  pub failed : Bool
  pub calls : ℕ
  pub bytes : ℕ
  pub zeros : ℕ
  pub at_zero : Bool
  pub unsent : Bool

-- what a device tells of its calls; its bytes, as far as it tells them: those that it will give, or those that it holds; and the
-- reference that it was lent
pub record Seen : Type 0 where
  pub told : Told
  pub bytes : Option (List ℕ)
  pub lent : Option GName

abbrev pub seen_by : {A : Type 0} → (A → Told) → (A → Option (List ℕ)) → (A → Option GName) → A → Seen
seen_by told bytes lent device = record { told = told device; bytes = bytes device; lent = lent device }

-- a device that was not called yet
abbrev pub uncalled : Told
uncalled = record { failed = false; calls = 0; bytes = 0; zeros = 0; at_zero = false; unsent = false }

-- how many bytes went through in a call
abbrev pub bytes_of : Result ℕ Failed → ℕ
bytes_of (Err e) = 0
bytes_of (Ok count) = count

-- which bytes a source gave in a call, of those that are in the buffer then
abbrev pub given : Result ℕ Failed → List ℕ → List ℕ
given (Err e) buffer = []
given (Ok count) buffer = take count buffer

-- whether a call answered 0 though its buffer, or its part, of this size has a byte
abbrev pub is_zero : Result ℕ Failed → ℕ → Bool
is_zero (Err e) size = false
is_zero (Ok count) size = count == 0 && not (size == 0)

-- after a call with a buffer, or a part, of this size
abbrev pub called : Told → Result ℕ Failed → ℕ → Told
called old result size = record {
  failed = is_err result;
  calls = old.calls + 1;
  bytes = old.bytes + bytes_of result;
  zeros = old.zeros + (if is_zero result size then 1 else 0);
  at_zero = is_zero result size;
  unsent = true;
}

-- after what a sink held back was sent on: that is no call
abbrev pub flushed : {A : Type 0} → Told → Result A Failed → Told
flushed old result = record old { failed = is_err result; unsent = is_err result }

-- what a count tells
abbrev pub told_by : Count → Told
told_by c = record { failed = c.is_broken || c.calls == 2 ^ 64 - 1; calls = c.calls; bytes = c.bytes; zeros = c.zeros; at_zero = c.at_zero; unsent = c.unsent }

-- the sink hasn't failed, and took some of each part: so in each call a byte went through
pub record Works (old new : Told) : Type 0 where
  pub working : new.failed ≡ false
  pub taken : new.zeros ≡ old.zeros
  pub each : new.calls + old.bytes ≤ old.calls + new.bytes

-- a sink that stood so before works, writes through the same reference, and holds nothing back
pub record HoldsNothing (before now : Seen) : Type 0 where
  pub works : Works before.told now.told
  pub lent : now.lent ≡ before.lent
  pub sent : now.told.unsent ≡ false

-- the sink failed, or took nothing of a part that had a byte
abbrev pub IsBroken : Told → Told → Type 0
IsBroken old new = (new.failed ≡ true) ⊎ (old.zeros < new.zeros)

-- no call was made after one that answered 0, and in all calls but one a byte went through: there were at most as many calls as
-- bytes, and one
pub record StopsAtZero (old new : Told) : Type 0 where
  pub few : new.calls + old.bytes ≤ old.calls + new.bytes + 1
  pub once : new.zeros ≤ old.zeros + 1
  pub last : old.zeros < new.zeros → new.at_zero ≡ true

-- the sink failed, or took nothing of a part that had a byte, and was not called again
pub record IsStopped (old new : Told) : Type 0 where
  pub broken : IsBroken old new
  pub calls : StopsAtZero old new

-- the source failed, or all turns were used, and in none the end was found
abbrev pub IsCut : ℕ → Told → Told → Type 0
IsCut turns old new = (new.failed ≡ true) ⊎ ((new.calls ≡ old.calls + turns) × (new.zeros ≡ old.zeros))

-- the source hasn't failed, and its end was found
pub record IsRead (old new : Told) : Type 0 where
  pub working : new.failed ≡ false
  pub some : old.calls < new.calls
  pub found : new.zeros ≡ old.zeros + 1

-- at most this many calls were made, and none after one that answered 0
pub record IsCalled (turns : ℕ) (old new : Told) : Type 0 where
  pub few : new.calls ≤ old.calls + turns
  pub stops : StopsAtZero old new

-- why something stopped
abbrev pub stopped_by : {A : Type 0} → Result A RunFault → Option RunFault
stopped_by (Ok x) = None
stopped_by (Err fault) = Some fault

-- how both devices stand where an input was served to its end, or was stopped by this fault. For want of memory neither
-- was called
abbrev pub Stops : ℕ → Told → Told → Told → Told → Option RunFault → Type 0
Stops turns source source_now sink sink_now None = IsRead source source_now × Works sink sink_now
Stops turns source source_now sink sink_now (Some Read) = IsCut turns source source_now × Works sink sink_now
Stops turns source source_now sink sink_now (Some Write) = IsBroken sink sink_now
Stops turns source source_now sink sink_now (Some Memory) = (source_now ≡ source) × (sink_now ≡ sink)

-- ---- what a source hears
-- Calls of a source, one after another, by what each of them does, which gives one chunk. Before each of them the source and the sink
-- stand so
abbrev pub Chain : {S : Type 0} → (S → S → List ℕ → Seen → Type 0) → (S → Seen → Type 0) → S → S → List (List ℕ) → Type 0
Chain does stand from now [] = now ≡ from
Chain does stand from now (chunk ∷ chunks) = (next : _) × (sink : Seen) × stand from sink × does from next chunk sink × Chain does stand next now chunks

-- some calls, one after another, each where these stand so; and whatever stands
abbrev pub HearsWhere : {S : Type 0} → (S → S → List ℕ → Seen → Type 0) → (S → Seen → Type 0) → S → S → Type 0
HearsWhere does stand from now = (chunks : List (List ℕ)) × Chain does stand from now chunks

abbrev pub Hears : {S : Type 0} → (S → S → List ℕ → Seen → Type 0) → S → S → Type 0
Hears does from now = HearsWhere does (λ source sink. Unit {0}) from now
