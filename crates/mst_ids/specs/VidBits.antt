-- A set of VIDs as bits: one for each number from 0 to 4095, in words of 64 bits.
use Rattle.std.specs.Prelude.{◌≡◌, ℕ, zero, suc, ◌+◌, ◌*◌, ◌/◌, ◌%◌, ◌^◌, ◌<◌, Bool, true, false, cond, ◌==◌, List, length, map, slice_index, if◌then◌else◌}
use Rattle.std.specs.Int.{bit_at}
use Rattle.std.specs.List.{range_with_len}
use Rattle.std.proofs.Common.{get_or, sym, ap, ◌∙◌, arith, pow-suc}
use Rattle.std.proofs.lemmas.Bool.{eqb-true, eqb-false}
use Rattle.std.proofs.lemmas.List.FromFn.{length-map-range_with_len, get_or-map-range_with_len, fill_by_all}
use Rattle.std.proofs.lemmas.Nat.Bits.{bit_at_lowest, bit_at-suc}
use Rattle.mst_ids.specs.Vids.{set_where, has}

-- whether a number's bit is set
abbrev pub bit_of : List ℕ → ℕ → Bool
bit_of words n = bit_at (slice_index words (n / 64)) (n % 64) == 1

-- the number whose bits, the lowest first, are the flags from a place on
unfoldable pub number_from : List Bool → ℕ → ℕ → ℕ
number_from vids place zero = 0
number_from vids place (suc count) = (if has vids place then 1 else 0) + 2 * number_from vids (place + 1) count

-- the words of a set
unfoldable pub words_of : List Bool → List ℕ
words_of vids = map (λ i. number_from vids (64 * i) 64) (range_with_len 0 64)

-- ---- flags
pub length-set_where : (test : ℕ → Bool) → length (set_where test) ≡ 4096
unfolding set_where
length-set_where test = length-map-range_with_len test 0 4096

pub has-set_where : (test : ℕ → Bool) (n : ℕ) → n < 4096 → has (set_where test) n ≡ test n
unfolding set_where
has-set_where test n h = get_or-map-range_with_len test 0 4096 n n false h (omega arith)

-- ---- the words that a set gives back
-- a flag as a number
low_bit : (b : Bool) (n : ℕ) → b ≡ (n % 2 == 1) → cond b 1 0 ≡ n % 2
low_bit true n e = let one = eqb-true (n % 2) 1 (sym e) in omega arith
low_bit false n e = let other = eqb-false (n % 2) 1 (sym e) in omega arith

-- a number is that of its bits
number_from_is : (vids : List Bool) (count place n : ℕ) → n < 2 ^ count → ((j : ℕ) → j < count → has vids (place + j) ≡ (bit_at n j == 1)) → number_from vids place count ≡ n
unfolding number_from
number_from_is vids zero place n h each = omega arith
number_from_is vids (suc count) place n h each =
    let here : place ≡ place + 0 = omega arith in
    let low : cond (has vids place) 1 0 ≡ n % 2 = low_bit (has vids place) n (ap (has vids) here ∙ each 0 (omega arith) ∙ ap (λ b. b == 1) (bit_at_lowest n)) in
    let small : n / 2 < 2 ^ count = half_fits count n h in
    let rest : number_from vids (place + 1) count ≡ n / 2 = number_from_is vids count (place + 1) (n / 2) small (λ j below.
    let there : place + 1 + j ≡ place + suc j = omega arith in
    ap (has vids) there ∙ each (suc j) (omega arith) ∙ ap (λ b. b == 1) (bit_at-suc n j)) in
    rw (low, rest) (omega arith)
  where
    half_fits : (count n : ℕ) → n < 2 ^ suc count → n / 2 < 2 ^ count
    half_fits count n h = let double : 2 ^ suc count ≡ 2 * 2 ^ count = omega (arith, pow-suc 2 count) in omega arith

-- the bit of a number, by its word and its place there
bit_of_place : (words : List ℕ) (i j : ℕ) → j < 64 → bit_of words (64 * i + j) ≡ (bit_at (get_or words i 0) j == 1)
bit_of_place words i j h =
    let word : (64 * i + j) / 64 ≡ i = omega arith in
    let place : (64 * i + j) % 64 ≡ j = omega arith in
    rw (word, place)

-- words that are kept as a set
pub words_of-set_where : (words : List ℕ) → length words ≡ 64 → ((i : ℕ) → get_or words i 0 < 2 ^ 64) → words_of (set_where (bit_of words)) ≡ words
unfolding words_of
words_of-set_where words long fits =
    let vids = set_where (bit_of words) in
    sym (fill_by_all (λ i. number_from vids (64 * i) 64) words 64 0 long (λ i within.
    sym (number_from_is vids 64 (64 * i) (get_or words i 0) (fits i) (λ j below.
    has-set_where (bit_of words) (64 * i + j) (omega arith) ∙ bit_of_place words i j below))))
