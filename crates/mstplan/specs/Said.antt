-- What standard error gets.
use Rattle.std.specs.Prelude.{◌≡◌, ◌⊎◌, ℕ, ◌+◌, ◌/◌, ◌%◌, true, false, List, [], ◌∷◌, nat_lt, if◌then◌else◌}
use Rattle.std.specs.Char.{encode_utf8, is_control}
use Rattle.std.specs.List.{flat_map}
use Rattle.std.specs.Str.{chars}
use Rattle.std.specs.Io.KnownBytes.{Appends}
use Rattle.mst_io.specs.Devices.{Seen, Works, IsStopped}
use Rattle.mst_io.specs.Written.{AppendsFront}
use Rattle.mstplan.specs.declared.said.Part.{Part}
use Rattle.mstplan.specs.declared.said.Part.TheVariants.{Text, Name}

-- A text was to be said: it went out; or standard error failed in it, and a front went out; or it had failed before, and
-- wasn't called
pub record IsSaid (old new : Seen) (text : List ℕ) : Type 0 where
  pub working : old.told.failed ≡ false → (Appends old.bytes new.bytes text × Works old.told new.told) ⊎ (AppendsFront old.bytes new.bytes text × IsStopped old.told new.told)
  pub failed : old.told.failed ≡ true → new ≡ old

-- ---- the name of a file

-- a digit to the base 16
abbrev pub hex_digit : ℕ → ℕ
hex_digit n = if nat_lt n 10 then 48 + n else 87 + n

-- the code of a control character, as `\x1b`: these are those below 20 hexadecimal and those from 7F to 9F
abbrev pub coded : ℕ → List ℕ
coded c = 92 ∷ 120 ∷ hex_digit (c / 16) ∷ hex_digit (c % 16) ∷ []

-- a name as it is shown: each control character, which a terminal may act on, by its code
abbrev pub shown_char : ℕ → List ℕ
shown_char c = if is_control c then coded c else encode_utf8 c

abbrev pub shown : List ℕ → List ℕ
shown name = flat_map shown_char (chars name)

-- a part of what is said
abbrev pub part_text : Part → List ℕ
part_text (Text text) = text.now
part_text (Name name) = shown name.now

abbrev pub parts_text : List Part → List ℕ
parts_text parts = flat_map part_text parts
