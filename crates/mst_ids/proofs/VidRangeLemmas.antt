-- The set that a list of VIDs names holds no number that is no VID.
use Rattle.std.proofs.Common.{◌≡◌, ℕ, ◌<◌, ◌≤◌, Bool, true, false, ◌||◌, List, [], ◌∷◌, Option, Some, None, refl, ◌∙◌, arith}
use Rattle.std.specs.Prelude.{◌&&◌, IfSome, if◌then◌else◌, nat_le}
use Rattle.std.specs.List.{list_any}
use Rattle.std.specs.Option.{option_map, option_and_then}
use Rattle.std.proofs.lemmas.Bool.{and_parts, and_left, and_right, leb-true, lt-leb}
use Rattle.mst_ids.specs.Vids.{is_vid, is_numeral, decimal_value, set_where, IsVidSet, vid_value, range_between, halves_of, range_of_halves, range_of, ranges_of, items_of, is_within, vids_value}
use Rattle.mst_ids.specs.VidBits.{length-set_where, has-set_where}

-- a set of numbers that pass a test which neither 0 nor 4095 passes
pub is_vid_set : (test : ℕ → Bool) → test 0 ≡ false → test 4095 ≡ false → IsVidSet (set_where test)
is_vid_set test first last = (length-set_where test, has-set_where test 0 (omega arith) ∙ first, has-set_where test 4095 (omega arith) ∙ last)

-- ---- each item
-- a range of VIDs
abbrev WithinVids : ℕ × ℕ → Type 0
WithinVids range = (1 ≤ range.0) × (range.1 ≤ 4094)

abbrev Within : ℕ → Type 0
Within n = (1 ≤ n) × (n ≤ 4094)

-- a value where a test passes
if_passed : {X : Type 0} (P : X → Type 0) (b : Bool) (x : X) → (b ≡ true → P x) → IfSome (if b then Some x else None) P
if_passed P true x h = h refl
if_passed P false x h = tt

number_within : (text : List ℕ) → IfSome (vid_value text) Within
number_within text = if_passed Within (is_numeral text && is_vid (decimal_value text)) (decimal_value text) (λ passed.
    let both = and_parts (nat_le 1 (decimal_value text)) (nat_le (decimal_value text) 4094) (and_parts (is_numeral text) (is_vid (decimal_value text)) passed).1 in
    (leb-true 1 (decimal_value text) both.0, leb-true (decimal_value text) 4094 both.1))

two_within : (first last : Option ℕ) → IfSome first Within → IfSome last Within → IfSome (range_between first last) WithinVids
two_within None last p q = tt
two_within (Some a) None p q = tt
two_within (Some a) (Some b) p q = if_passed WithinVids (nat_le a b) (a, b) (λ _. (p.0, q.1))

one_within : (vid : Option ℕ) → IfSome vid Within → IfSome (option_map (λ (n : ℕ). (n, n)) vid) WithinVids
one_within None p = tt
one_within (Some n) p = p

item_within : (item : List ℕ) (halves : Option (List ℕ × List ℕ)) → IfSome (range_of_halves item halves) WithinVids
item_within item None = one_within (vid_value item) (number_within item)
item_within item (Some halves) = two_within (vid_value halves.0) (vid_value halves.1) (number_within halves.0) (number_within halves.1)

-- ---- all items
-- ranges that cover neither 0 nor 4095
abbrev CoverVids : List (ℕ × ℕ) → Type 0
CoverVids ranges = (list_any (λ range. is_within range 0) ranges ≡ false) × (list_any (λ range. is_within range 4095) ranges ≡ false)

or_neither : (a b : Bool) → a ≡ false → b ≡ false → (a || b) ≡ false
or_neither true b p q = p
or_neither false b p q = q

leb-above : (a b : ℕ) → b < a → nat_le a b ≡ false
leb-above a b h = grind (arith, lt-leb)

more_within : (range : ℕ × ℕ) (ranges : List (ℕ × ℕ)) → WithinVids range → CoverVids ranges → CoverVids (range ∷ ranges)
more_within range ranges within others = (
  or_neither (is_within range 0) _ (and_left (nat_le range.0 0) (nat_le 0 range.1) (leb-above range.0 0 (omega (arith, within.0)))) others.0,
  or_neither (is_within range 4095) _ (and_right (nat_le range.0 4095) (nat_le 4095 range.1) (leb-above 4095 range.1 (omega (arith, within.1)))) others.1,
)

item_and_others : (range : Option (ℕ × ℕ)) (ranges : Option (List (ℕ × ℕ))) → IfSome range WithinVids → IfSome ranges CoverVids → IfSome (option_and_then (λ r. option_map (λ rs. r ∷ rs) ranges) range) CoverVids
item_and_others None ranges p q = tt
item_and_others (Some range) None p q = tt
item_and_others (Some range) (Some ranges) p q = more_within range ranges p q

items_within : (items : List (List ℕ)) → IfSome (ranges_of items) CoverVids
items_within [] = (refl, refl)
items_within (item ∷ items) = item_and_others (range_of item) (ranges_of items) (item_within item (halves_of item)) (items_within items)

set_within : (ranges : Option (List (ℕ × ℕ))) → IfSome ranges CoverVids → IfSome (option_map (λ ranges. set_where (λ n. list_any (λ range. is_within range n) ranges)) ranges) IsVidSet
set_within None p = tt
set_within (Some ranges) p = is_vid_set (λ n. list_any (λ range. is_within range n) ranges) p.0 p.1

-- the set of a text that has one
pub vids_value-IsVidSet : (text : List ℕ) → IfSome (vids_value text) IsVidSet
vids_value-IsVidSet text = set_within (ranges_of (items_of text)) (items_within (items_of text))
