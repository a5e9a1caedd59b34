-- The parts of a list are as long as each other but for one item, and are the list, one after another.
use Rattle.std.proofs.Common.{◌≡◌, ℕ, ◌+◌, ◌-◌, ◌*◌, ◌/◌, ◌≤◌, ◌<◌, zero, suc, List, ◌++◌, length, take, drop, min, sym, ap, ap₂, subst, ◌∙◌, arith}
use Rattle.std.specs.List.{flat_map, range_with_len}
use Rattle.std.proofs.lemmas.List.{length-take, length-drop, take-append-drop, take-take, drop-drop, drop-take, take_all}
use Rattle.std.proofs.lemmas.Nat.{div-mul-add, div-add-mod', div_below, le-div, mod_below, mul-le}
use Rattle.std.proofs.Math.Nat.{add-mul, div-mul-le_self, min-eq_left, mul_comm, add-zero, sub_self, le_trans}
use Rattle.mst_sweep.specs.SweepParts.{PartOf, end_of, part_of}

-- two pieces of a list that touch
touching : {A : Type 0} (i j : ℕ) (xs : List A) → take i xs ++ take j (drop i xs) ≡ take (i + j) xs
touching i j xs =
    ap₂ (λ a b. a ++ b) (sym (take-take i (i + j) xs (omega arith))) (sym (drop-take i j xs)) ∙ take-append-drop i (take (i + j) xs)

pieces : {A : Type 0} (a b c : ℕ) (xs : List A) → a ≤ b → b ≤ c → take (b - a) (drop a xs) ++ take (c - b) (drop b xs) ≡ take (c - a) (drop a xs)
pieces a b c xs h k =
    let further : a + (b - a) ≡ b = omega (arith, h) in
    let whole : (b - a) + (c - b) ≡ c - a = omega (arith, h, k) in
    ap (λ n. take (b - a) (drop a xs) ++ take (c - b) (drop n xs)) (sym further) ∙ ap (λ l. take (b - a) (drop a xs) ++ take (c - b) l) (sym (drop-drop (b - a) a xs))
    ∙ touching (b - a) (c - b) (drop a xs) ∙ ap (λ n. take n (drop a xs)) whole

-- where parts end: none before the one before it, the first at the beginning and the last at the end
module _ (count : ℕ) (some : 0 < count) where
  rising : (k len : ℕ) → end_of k count len ≤ end_of (k + 1) count len
  rising k len = le-div (k * len / count) ((k + 1) * len) count some (le_trans (div-mul-le_self (k * len) count) (mul-le k len (k + 1) len (omega arith) (omega arith)))

  risen : (k m len : ℕ) → end_of k count len ≤ end_of (k + m) count len
  risen k m len = le-div (k * len / count) ((k + m) * len) count some (le_trans (div-mul-le_self (k * len) count) (mul-le k len (k + m) len (omega arith) (omega arith)))

  first : (len : ℕ) → end_of 0 count len ≡ 0
  first len =
      let none : 0 * len ≡ 0 * count + 0 = omega arith in
      ap (λ n. n / count) none ∙ div-mul-add 0 count 0 some

  last : (len : ℕ) → end_of count count len ≡ len
  last len = ap (λ n. n / count) (mul_comm count len ∙ sym (add-zero (len * count))) ∙ div-mul-add len count 0 some

  module _ {A : Type 0} (xs : List A) where
    abbrev part : ℕ → List A
    part number = part_of (record { number = number; count = count }) xs

    abbrev ends : ℕ → ℕ
    ends k = end_of k count (length xs)

    -- so many parts one after another are one piece of the list
    parts_from : (k m : ℕ) → flat_map part (range_with_len (k + 1) m) ≡ take (ends (k + m) - ends k) (drop (ends k) xs)
    parts_from k zero =
        let none : ends (k + 0) - ends k ≡ 0 = ap (λ n. ends n - ends k) (add-zero k) ∙ sub_self (ends k) in
        sym (ap (λ n. take n (drop (ends k) xs)) none)
    parts_from k (suc m) =
        let before : (k + 1) - 1 ≡ k = omega arith in
        let further : (k + 1) + m ≡ k + suc m = omega arith in
        ap₂ (λ n l. take (ends (k + 1) - ends n) (drop (ends n) xs) ++ l) before (parts_from (k + 1) m ∙ ap (λ n. take (ends n - ends (k + 1)) (drop (ends (k + 1)) xs)) further)
        ∙ pieces (ends k) (ends (k + 1)) (ends (k + suc m)) xs (rising k (length xs)) (subst (λ n. ends (k + 1) ≤ ends n) further (risen (k + 1) m (length xs)))

    pub all_parts : flat_map part (range_with_len 1 count) ≡ xs
    all_parts =
        let start : 0 + count ≡ count = omega arith in
        parts_from 0 count
        ∙ ap (λ n. take (ends n - ends 0) (drop (ends 0) xs)) start
        ∙ ap₂ (λ n l. take (n - l) (drop l xs)) (last (length xs)) (first (length xs))
        ∙ take_all (length xs - 0) xs (omega arith)

-- ---- how long they are
module _ (count len : ℕ) (some : 0 < count) where
  below : (n : ℕ) → n < (n / count + 1) * count
  below n =
      let whole = div-add-mod' n count in
      let rest = mod_below n count some in
      let more : (n / count + 1) * count ≡ n / count * count + 1 * count = add-mul (n / count) 1 count in
      omega (arith, whole, rest, more)

  at_least : (j : ℕ) → len / count + end_of j count len ≤ end_of (j + 1) count len
  at_least j =
      let one = div-mul-le_self len count in
      let before = div-mul-le_self (j * len) count in
      let sides : (len / count + j * len / count) * count ≡ len / count * count + j * len / count * count = add-mul (len / count) (j * len / count) count in
      let further : (j + 1) * len ≡ j * len + 1 * len = add-mul j 1 len in
      le-div (len / count + j * len / count) ((j + 1) * len) count some (omega (arith, one, before, sides, further))

  at_most : (j : ℕ) → end_of (j + 1) count len ≤ len / count + 1 + end_of j count len
  at_most j =
      let one = below len in
      let before = below (j * len) in
      let sides : ((len / count + 1) + (j * len / count + 1)) * count ≡ (len / count + 1) * count + (j * len / count + 1) * count = add-mul (len / count + 1) (j * len / count + 1) count in
      let further : (j + 1) * len ≡ j * len + 1 * len = add-mul j 1 len in
      let less = div_below ((j + 1) * len) count ((len / count + 1) + (j * len / count + 1)) some (omega (arith, one, before, sides, further)) in
      omega (arith, less)

-- a part ends behind its beginning, and is as long as these are apart
pub ends_rise : (chosen : PartOf) (len : ℕ) → 1 ≤ chosen.number → chosen.number ≤ chosen.count → end_of (chosen.number - 1) chosen.count len ≤ end_of chosen.number chosen.count len
ends_rise chosen len least most =
    let next : (chosen.number - 1) + 1 ≡ chosen.number = omega (arith, least) in
    subst (λ k. end_of (chosen.number - 1) chosen.count len ≤ end_of k chosen.count len) next (rising chosen.count (omega (arith, least, most)) (chosen.number - 1) len)

pub length_part : {A : Type 0} (all : List A) (chosen : PartOf) → 1 ≤ chosen.number → chosen.number ≤ chosen.count
    → length (part_of chosen all) ≡ end_of chosen.number chosen.count (length all) - end_of (chosen.number - 1) chosen.count (length all)
length_part all chosen least most =
    let count = chosen.count in
    let number = chosen.number in
    let len = length all in
    let some : 0 < count = omega (arith, least, most) in
    let begin = end_of (number - 1) count len in
    let end = end_of number count len in
    let rest : number + (count - number) ≡ count = omega (arith, most) in
    let within : end ≤ len = subst (λ n. end ≤ n) (last count some len) (subst (λ k. end ≤ end_of k count len) rest (risen count some number (count - number) len)) in
    let long : length (part_of chosen all) ≡ min (end - begin) (len - begin) = length-take (end - begin) (drop begin all) ∙ ap (min (end - begin)) (length-drop begin all) in
    long ∙ min-eq_left (omega (arith, within))

-- so that the lengths of two of them differ by 1 at most
pub lengths_near : {A : Type 0} (all : List A) (part : PartOf) → 1 ≤ part.number → part.number ≤ part.count
    → (length all / part.count ≤ length (part_of part all)) × (length (part_of part all) ≤ length all / part.count + 1)
lengths_near all chosen least most =
    let count = chosen.count in
    let number = chosen.number in
    let len = length all in
    let some : 0 < count = omega (arith, least, most) in
    let begin = end_of (number - 1) count len in
    let end = end_of number count len in
    let next : (number - 1) + 1 ≡ number = omega (arith, least) in
    let low : len / count + begin ≤ end = subst (λ k. len / count + begin ≤ end_of k count len) next (at_least count len some (number - 1)) in
    let high : end ≤ len / count + 1 + begin = subst (λ k. end_of k count len ≤ len / count + 1 + begin) next (at_most count len some (number - 1)) in
    let is : length (part_of chosen all) ≡ end - begin = length_part all chosen least most in
    (subst (λ n. len / count ≤ n) (sym is) (omega (arith, low)), subst (λ n. n ≤ len / count + 1) (sym is) (omega (arith, low, high)))
