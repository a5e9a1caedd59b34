-- What a word was meant to be that isn't in the form of its argument, where that can be told.
use Rattle.std.specs.Prelude.{ℕ, ◌+◌, ◌*◌, ◌/◌, Bool, ◌&&◌, ◌||◌, ◌==◌, not, List, [], ◌∷◌, ◌++◌, count_by, take, drop, filter, position, nat_le, nat_lt, Option, None, Some, is_some, if◌then◌else◌, codes, decimal}
use Rattle.std.specs.Char.{is_ascii_digit, is_ascii_hexdigit}
use Rattle.std.specs.List.{list_all}
use Rattle.std.specs.Option.{option_map, option_and_then}
use Rattle.std.specs.Result.{result_ok}
use Rattle.mst_ids.specs.Texts.{is_separator}
use Rattle.mst_ids.specs.Vids.{vids_value}
use Rattle.mst_lang.specs.Arguments.{is_text, number_value, priority}
use Rattle.mst_lang.specs.declared.line.Version.{Version}
use Rattle.mst_lang.specs.declared.line.Version.TheVariants.{V1, V2}
use Rattle.mst_lang.specs.declared.form.Argument.{Argument}
use Rattle.mst_lang.specs.declared.form.Argument.TheVariants.{BridgePriority, MacAddress, OneVid, PathCost, PortPriority, SpeedNumber}
use Rattle.mst_hints.specs.declared.meant.Meant.{Meant}
use Rattle.mst_hints.specs.declared.meant.Meant.TheVariants.{Between, Number, Pairs, Vids}
use Rattle.mst_hints.specs.Near.{is_in_case, lower_case}

-- ---- a priority
-- the two multiples of a step between which a number stands, of at most 15 steps
abbrev pub between : ℕ → ℕ → Option Meant
between step n = if nat_lt n (15 * step) then Some (Between (n / step * step) (n / step * step + step)) else None

-- version 1 has the number of steps where version 2 has the priority itself, which is a multiple of the step
abbrev pub priority_meant : Version → ℕ → List ℕ → Option Meant
priority_meant V1 step word = option_map Number (result_ok (priority step word))
priority_meant V2 step word = option_and_then (between step) (number_value word)

-- ---- a MAC address with other marks between its digits, or none
abbrev pub is_mark : ℕ → Bool
is_mark b = is_separator b || b == 46

abbrev pub is_digit_or_mark : ℕ → Bool
is_digit_or_mark b = is_mark b || is_ascii_hexdigit b

-- twelve hexadecimal digits, and marks
abbrev pub is_spelled_mac : List ℕ → Bool
is_spelled_mac word = count_by (λ b. not (is_mark b)) word == 12 && list_all is_digit_or_mark word

-- digits in pairs, with `:` between two of these, where so many have come of the first pair
abbrev pub paired_from : ℕ → List ℕ → List ℕ
paired_from count [] = []
paired_from count (digit ∷ digits) = if count == 2 then 58 ∷ digit ∷ paired_from 1 digits else digit ∷ paired_from (count + 1) digits

abbrev pub paired : List ℕ → List ℕ
paired word = paired_from 0 (filter (λ b. not (is_mark b)) word)

-- ---- a speed with its unit
-- what stands behind the letter of a unit, in letters of either case
abbrev pub is_ending : List ℕ → Bool
is_ending text =
    is_in_case [] text || (is_in_case (codes "b") text || (is_in_case (codes "bps") text
    || (is_in_case (codes "b/s") text || (is_in_case (codes "bit") text || is_in_case (codes "bit/s") text))))

-- how many kb/s are one of these, by its letter: k, M or G
abbrev pub unit_size : ℕ → Option ℕ
unit_size letter = if letter == 107 then Some 1 else (if letter == 109 then Some 1_000 else (if letter == 103 then Some 1_000_000 else None))

abbrev pub unit_of : List ℕ → Option ℕ
unit_of [] = None
unit_of (letter ∷ ending) = if is_ending ending then unit_size (lower_case letter) else None

-- so many of a unit, where that is a speed
abbrev pub speed_of : ℕ → Option Meant
speed_of kbps = if nat_le 1 kbps && nat_le kbps 9_999_999_999 then Some (Number kbps) else None

abbrev pub scaled : Option ℕ → Option ℕ → Option Meant
scaled (Some n) (Some unit) = speed_of (n * unit)
scaled n unit = None

-- what stands before the first byte that is no digit, and this and what follows
abbrev pub speed_meant : List ℕ → Option Meant
speed_meant word = option_and_then (λ i. scaled (number_value (take i word)) (unit_of (drop i word))) (position (λ b. not (is_ascii_digit b)) word)

-- ---- a word by its argument
abbrev pub meant_by : Version → Argument → List ℕ → Option Meant
meant_by version BridgePriority word = priority_meant version 4096 word
meant_by version PortPriority word = priority_meant version 16 word
meant_by version MacAddress word = if is_spelled_mac word then Some Pairs else None
meant_by version PathCost word = if is_text word (codes "auto") then Some (Number 0) else None
meant_by version SpeedNumber word = speed_meant word
meant_by version OneVid word = if is_some (vids_value word) then Some Vids else None
meant_by version _ word = None

-- and that in words
abbrev pub meaning : List ℕ → Meant → List ℕ
meaning word (Number n) = decimal n
meaning word (Between low high) = codes "between " ++ decimal low ++ codes " and " ++ decimal high
meaning word Pairs = paired word
meaning word Vids = codes "a list of VIDs"
