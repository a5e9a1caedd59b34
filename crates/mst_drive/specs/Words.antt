-- What a word of the program tells of its inputs, and what is written of that.
use Rattle.std.specs.Prelude.{◌≡◌, ℕ, ◌<◌, ◌⊎◌, List, [], Option, None, Result, Ok, Err}
use Rattle.std.specs.Io.KnownBytes.{Appends}
use Rattle.mst_io.specs.Devices.{HoldsNothing, Seen, Told, IsCut, IsRead}
use Rattle.mst_io.specs.Written.{AppendsFront}
use Rattle.mst_io.specs.declared.outcome.Outcome.{Outcome}
use Rattle.mst_io.specs.declared.outcome.RunFault.{RunFault}
use Rattle.mst_io.specs.declared.outcome.RunFault.TheVariants.{Read, Write, Memory}

-- its inputs, by what they give or have left, as far as they tell. It has three at most, and asks nothing of those that it doesn't have
pub record Inputs : Type 0 where
  pub first : Option (List ℕ)
  pub second : Option (List ℕ)
  pub third : Option (List ℕ)

abbrev pub inputs : Option (List ℕ) → Option (List ℕ) → Option (List ℕ) → Inputs
inputs first second third = record { first = first; second = second; third = third }

-- of a word that has one, or two
abbrev pub one_input : Option (List ℕ) → Inputs
one_input first = inputs first None None

abbrev pub two_inputs : Option (List ℕ) → Option (List ℕ) → Inputs
two_inputs first second = inputs first second None

-- What it tells, each by a text that it prints: of all that its inputs give, with what is counted of that; what it may print of them
-- where it is stopped before it has an answer; all that it prints where an input can't be read on, by what is left of each, and
-- where there is no memory for the answer; and all that it has printed whenever it asks for more of an input, by what that has left
pub record Telling : Type 1 where
  pub tells : Inputs → List ℕ → Outcome → Type 0
  pub begins : Inputs → List ℕ → Type 0
  pub cut : Inputs → Inputs → List ℕ → Type 0
  pub starved : Inputs → List ℕ → Type 0
  pub told_first : Inputs → Option (List ℕ) → List ℕ → Type 0
  pub told_second : Inputs → Option (List ℕ) → List ℕ → Type 0
  pub told_third : Inputs → Option (List ℕ) → List ℕ → Type 0

-- one of these texts was written, or a front of one
abbrev pub Wrote : Option (List ℕ) → Option (List ℕ) → (List ℕ → Type 0) → Type 0
Wrote written now texts = (text : List ℕ) × texts text × Appends written now text

abbrev pub WroteFront : Option (List ℕ) → Option (List ℕ) → (List ℕ → Type 0) → Type 0
WroteFront written now texts = (text : List ℕ) × texts text × AppendsFront written now text

-- How all stands before a call of a source: one of these texts, by what it has left, has gone out to the sink since that stood so, and
-- nothing is held back
abbrev pub HasTold : {S : Type 0} → (Option (List ℕ) → List ℕ → Type 0) → (S → Option (List ℕ)) → Seen → S → Seen → Type 0
HasTold texts remaining before source sink = HoldsNothing before sink × Wrote before.bytes sink.bytes (texts (remaining source))

-- nothing is told of an input while it is read
abbrev pub Unwritten : Option (List ℕ) → List ℕ → Type 0
Unwritten left text = text ≡ []

-- what may have been printed a front of
abbrev pub MayTell : Telling → Inputs → List ℕ → Type 0
MayTell telling given text = telling.begins given text ⊎ ((outcome : Outcome) × telling.tells given text outcome)

-- How it ends: with all that it tells; where a source has failed with all that it prints then; where there is no memory likewise; and
-- after any fault a front of what it tells was written
abbrev pub Ended : Telling → Inputs → Inputs → Option (List ℕ) → Option (List ℕ) → Result Outcome RunFault → Type 0
Ended telling given left written now (Ok outcome) = Wrote written now (λ text. telling.tells given text outcome)
Ended telling given left written now (Err Read) = Wrote written now (telling.cut given left) × WroteFront written now (MayTell telling given)
Ended telling given left written now (Err Write) = WroteFront written now (MayTell telling given)
Ended telling given left written now (Err Memory) = Wrote written now (telling.starved given) × WroteFront written now (MayTell telling given)

-- one of so many can't be read on: its source has failed, or all turns of it were used and none found the end
abbrev pub IsUnread : ℕ → ℕ → Told → Told → Told → Told → Told → Told → Type 0
IsUnread count turns first first_now second second_now third third_now =
    IsCut turns first first_now ⊎ (((1 < count) × IsCut turns second second_now) ⊎ ((2 < count) × IsCut turns third third_now))

-- how the sources of so many inputs stand where it ended well: each was read to its end
pub record AreRead (count : ℕ) (first first_now second second_now third third_now : Told) : Type 0 where
  pub is_first : IsRead first first_now
  pub is_second : 1 < count → IsRead second second_now
  pub is_third : 2 < count → IsRead third third_now
