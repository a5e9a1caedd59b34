-- Sets of VIDs: which text stands for which set, and the text of a set.
use Rattle.std.specs.Prelude.{◌≡◌, ℕ, ◌+◌, ◌-◌, ◌*◌, Bool, true, false, ◌==◌, ◌&&◌, List, [], ◌∷◌, ◌++◌, map, length, take, drop, fold, position, slice_index_or, Option, None, Some, nat_le, if◌then◌else◌, decimal}
use Rattle.std.specs.Char.{is_ascii_digit}
use Rattle.std.specs.List.{range_with_len, list_all, list_any, slice_split, join_with_byte}
use Rattle.std.specs.Option.{option_map, option_and_then}

-- ---- sets: a flag for each number from 0 to 4095
-- a VID is a number from 1 to 4094
abbrev pub is_vid : ℕ → Bool
is_vid n = nat_le 1 n && nat_le n 4094

-- the set of the numbers from 0 to 4095 that pass a test
unfoldable pub set_where : (ℕ → Bool) → List Bool
set_where test = map test (range_with_len 0 4096)

-- whether a number is in a set
abbrev pub has : List Bool → ℕ → Bool
has set n = slice_index_or set n false

-- a set has 4,096 flags, and those of the two numbers that are no VID are false
abbrev pub IsVidSet : List Bool → Type 0
IsVidSet set = (length set ≡ 4096) × (has set 0 ≡ false) × (has set 4095 ≡ false)

-- ---- the set that a text stands for
-- the value of decimal digits
abbrev pub decimal_value : List ℕ → ℕ
decimal_value digits = fold (λ n digit. n * 10 + (digit - 48)) 0 digits

-- 1 to 10 decimal digits
abbrev pub is_numeral : List ℕ → Bool
is_numeral text = nat_le 1 (length text) && (nat_le (length text) 10 && list_all is_ascii_digit text)

-- a VID in decimal, with leading zeros or without
abbrev pub vid_value : List ℕ → Option ℕ
vid_value text = if is_numeral text && is_vid (decimal_value text) then Some (decimal_value text) else None

-- two VIDs, the first not greater than the second
abbrev pub range_between : Option ℕ → Option ℕ → Option (ℕ × ℕ)
range_between first last = option_and_then (λ a. option_and_then (λ b. if nat_le a b then Some (a, b) else None) last) first

-- what stands before the first dash of an item and what stands after it, if it has one
abbrev pub halves_of : List ℕ → Option (List ℕ × List ℕ)
halves_of item = option_map (λ dash. (take dash item, drop (dash + 1) item)) (position (λ b. b == 45) item)

-- the first and the last VID of an item: of two VIDs with a dash between, or of a VID alone
abbrev pub range_of_halves : List ℕ → Option (List ℕ × List ℕ) → Option (ℕ × ℕ)
range_of_halves item (Some halves) = range_between (vid_value halves.0) (vid_value halves.1)
range_of_halves item None = option_map (λ vid. (vid, vid)) (vid_value item)

abbrev pub range_of : List ℕ → Option (ℕ × ℕ)
range_of item = range_of_halves item (halves_of item)

-- the ranges of items, if each of them has one
abbrev pub ranges_of : List (List ℕ) → Option (List (ℕ × ℕ))
ranges_of [] = Some []
ranges_of (item ∷ items) = option_and_then (λ range. option_map (λ ranges. range ∷ ranges) (ranges_of items)) (range_of item)

-- the items of a text: what stands between its commas
abbrev pub items_of : List ℕ → List (List ℕ)
items_of text = slice_split (λ b. b == 44) text

-- whether a range covers a number
abbrev pub is_within : ℕ × ℕ → ℕ → Bool
is_within range n = nat_le range.0 n && nat_le n range.1

-- a VID is in the set where some item covers it
abbrev pub vids_value : List ℕ → Option (List Bool)
vids_value text = option_map (λ ranges. set_where (λ n. list_any (λ range. is_within range n) ranges)) (ranges_of (items_of text))

-- ---- the text of a set
-- a number before the runs above it: it joins the first of them where they touch, else is a run alone
abbrev pub with_number : ℕ → List (ℕ × ℕ) → List (ℕ × ℕ)
with_number n [] = (n, n) ∷ []
with_number n (run ∷ runs) = if run.0 == n + 1 then (n, run.1) ∷ runs else (n, n) ∷ run ∷ runs

-- the longest runs of members in rising order, each by its first and its last; the first flag is that of n
abbrev pub runs_from : ℕ → List Bool → List (ℕ × ℕ)
runs_from n [] = []
runs_from n (false ∷ flags) = runs_from (n + 1) flags
runs_from n (true ∷ flags) = with_number n (runs_from (n + 1) flags)

-- a run of one as its number, and a longer one as its first and its last with `-` between
abbrev pub run_text : ℕ × ℕ → List ℕ
run_text run = if run.0 == run.1 then decimal run.0 else decimal run.0 ++ 45 ∷ decimal run.1

-- the runs with `,` between, and `-` where there are none
abbrev pub runs_text : List (ℕ × ℕ) → List ℕ
runs_text [] = 45 ∷ []
runs_text (run ∷ runs) = join_with_byte 44 (map run_text (run ∷ runs))

-- the text of a set
abbrev pub vids_text : List Bool → List ℕ
vids_text set = runs_text (runs_from 0 set)
