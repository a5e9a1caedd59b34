-- Sets of VIDs: their flags, and the bits that keep them.
use Rattle.std.specs.List.{list_all, range_with_len}
use Rattle.std.proofs.lemmas.Bool.{and_parts, ltb-true}
use Rattle.std.proofs.lemmas.List.FromFn.{get_or-range_with_len, length-range_with_len}
use Rattle.std.proofs.Common.{◌≡◌, ◌≢◌, ℕ, ◌+◌, ◌*◌, ◌/◌, ◌%◌, ◌^◌, ◌<◌, ◌≤◌, ◌&&◌, Bool, true, false, ◌||◌, List, [], ◌∷◌, zero, suc, length, get_or, set, refl, sym, ap, subst, nat_eq, ◌∙◌, ⊎_elim, arith, replicate, w64}
use Rattle.std.specs.Int.{bit_at}
use Rattle.std.specs.Prelude.{◌==◌, bit_or, nat_le, nat_lt}
use Rattle.std.specs.Bool.{beq}
use Rattle.std.specs.Cmp.{booleans_Decides}
use Rattle.std.specs.Cmp.Lexicographic.{pointwise, pointwise_decides, bytes_decides}
use Rattle.std.proofs.lemmas.Bool.Decides.{nat_tests, same_from_decides, Decides-like}
use Rattle.std.proofs.lemmas.Bool.{cases_lt, cases_eq, eq-eqb, ne_eqb, or_right, and_left, and_right, lt-leb, le-ltb}
use Rattle.std.proofs.lemmas.List.{ext_get_or, get_or_past, get_or-set_same, get_or-set_other, get_or-replicate, length-replicate, length-set}
use Rattle.std.proofs.lemmas.Nat.Bits.{bit_at-zero, bit_at_set_same, bit_at_set_other}
use Rattle.mst_ids.specs.declared.vid_set.VidSet.TheInside.{Inside}
use Rattle.mst_ids.specs.Vids.{is_vid, set_where, has, IsVidSet, is_within}
use Rattle.mst_ids.specs.VidBits.{bit_of, words_of, words_of-set_where, length-set_where, has-set_where}
use Rattle.mst_ids.specs.VidFields.{IsKeptSet, set_of}

-- ---- flags
-- a set is known by its flags
set_where_is : (s : List Bool) (q : ℕ → Bool) → length s ≡ 4096 → ((n : ℕ) → n < 4096 → has s n ≡ q n) → s ≡ set_where q
set_where_is s q long each = ext_get_or false s (set_where q) (long ∙ sym (length-set_where q)) (λ n h. let below : n < 4096 = omega arith in each n below ∙ sym (has-set_where q n below))

-- tests that agree below 4096 give one set
pub set_where-same : (p q : ℕ → Bool) → ((n : ℕ) → n < 4096 → p n ≡ q n) → set_where p ≡ set_where q
set_where-same p q same = set_where_is (set_where p) q (length-set_where p) (λ n h. has-set_where p n h ∙ same n h)

-- ---- bits
-- words of zeros have no bit set
get_or-zeros : (m i : ℕ) → get_or {A = ℕ} (replicate m 0) i 0 ≡ 0
get_or-zeros m i =
    ⊎_elim (λ below. get_or-replicate m i 0 0 below)
    (λ past. get_or_past {X = ℕ} (replicate m 0) i 0 (omega (arith, length-replicate {A = ℕ} m 0)))
    (cases_lt i m)

bit_of_zeros : (m n : ℕ) → bit_of (replicate m 0) n ≡ false
bit_of_zeros m n =
    ap (λ (word : ℕ). bit_at word (n % 64) == 1) (get_or-zeros m (n / 64)) ∙ ap (λ b. b == 1) (bit_at-zero (n % 64))

pub IsKeptSet-zeros : IsKeptSet (record { words = replicate 64 0 })
IsKeptSet-zeros = record {
  long = length-replicate {A = ℕ} 64 0;
  fits = λ i. omega (arith, get_or-zeros 64 i);
  first = bit_of_zeros 64 0;
  last = bit_of_zeros 64 4095;
}

pub set_of_zeros : set_where (bit_of (replicate 64 0)) ≡ set_where (λ _. false)
set_of_zeros = set_where-same (bit_of (replicate 64 0)) (λ _. false) (λ n _. bit_of_zeros 64 n)

-- ---- the flags of a set that is kept
pub has_is : (vids : List Bool) (words : List ℕ) (n : ℕ) → set_where (bit_of words) ≡ vids → n < 4096 → has vids n ≡ bit_of words n
has_is vids words n is h = ap (λ s. has s n) (sym is) ∙ has-set_where (bit_of words) n h

pub IsVidSet_is : (vids : List Bool) (words : List ℕ) → set_where (bit_of words) ≡ vids → bit_of words 0 ≡ false → bit_of words 4095 ≡ false → IsVidSet vids
IsVidSet_is vids words is first last =
    (ap length (sym is) ∙ length-set_where (bit_of words), has_is vids words 0 is (omega arith) ∙ first, has_is vids words 4095 is (omega arith) ∙ last)

-- ---- one bit
-- a test or nothing is the test
or_false : (b : Bool) → b ≡ (b || false)
or_false true = refl
or_false false = refl

-- one more bit is set
pub bit_of-set : (words : List ℕ) (i number n : ℕ) → length words ≡ 64 → number < 4096 → i ≡ number / 64 → bit_of (set words i (bit_or (get_or words i 0) (1 * 2 ^ (number % 64) % 2 ^ 64))) n ≡ (bit_of words n || n == number)
bit_of-set words i number n long small word_is = ⊎_elim same_word other_word (cases_eq (n / 64) i)
  where
    word : ℕ
    word = bit_or (get_or words i 0) (1 * 2 ^ (number % 64) % 2 ^ 64)

    other_number : n ≢ number → bit_of words n ≡ (bit_of words n || n == number)
    other_number other = or_false (bit_of words n) ∙ ap (λ b. bit_of words n || b) (sym (ne_eqb n number other))

    same_place : n / 64 ≡ i → n % 64 ≡ number % 64 → (bit_at word (n % 64) == 1) ≡ (bit_of words n || n == number)
    same_place e f =
        let same : n ≡ number = omega arith in
        ap (λ p. bit_at word p == 1) f
        ∙ ap (λ b. b == 1) (bit_at_set_same w64 (get_or words i 0) (number % 64) (omega arith))
        ∙ sym (or_right (bit_of words n) (n == number) (eq-eqb n number same))

    other_place : n / 64 ≡ i → n % 64 ≢ number % 64 → (bit_at word (n % 64) == 1) ≡ (bit_of words n || n == number)
    other_place e other =
        ap (λ b. b == 1) (bit_at_set_other w64 (get_or words i 0) (number % 64) (omega arith) (n % 64) other)
        ∙ ap (λ q. bit_at (get_or words q 0) (n % 64) == 1) (sym e)
        ∙ other_number (λ same. other (ap (λ m. m % 64) same))

    same_word : n / 64 ≡ i → bit_of (set words i word) n ≡ (bit_of words n || n == number)
    same_word e =
        ap (λ q. bit_at (get_or (set words i word) q 0) (n % 64) == 1) e
        ∙ ap (λ x. bit_at x (n % 64) == 1) (get_or-set_same words i word 0 (omega arith))
        ∙ ⊎_elim (same_place e) (other_place e) (cases_eq (n % 64) (number % 64))

    other_word : n / 64 ≢ i → bit_of (set words i word) n ≡ (bit_of words n || n == number)
    other_word other =
        ap (λ x. bit_at x (n % 64) == 1) (get_or-set_other words i (n / 64) word 0 other)
        ∙ other_number (λ e. other (ap (λ m. m / 64) e ∙ sym word_is))

-- ---- the bits of a range
-- the numbers from the first on and below a number, and then that number
within_more : (first vid n : ℕ) → first ≤ vid → ((nat_le first n && nat_lt n vid) || n == vid) ≡ (nat_le first n && nat_lt n (vid + 1))
within_more first vid n h = grind (arith, nat_tests)

-- `||` in either grouping
pub or_assoc : (a b c : Bool) → ((a || b) || c) ≡ (a || (b || c))
or_assoc true b c = refl
or_assoc false b c = refl

-- the bits of some words, and of the numbers from the first on and below a number
abbrev pub HasAlso : List ℕ → ℕ → ℕ → List ℕ → Type 0
HasAlso old first vid new = (n : ℕ) → bit_of new n ≡ (bit_of old n || (nat_le first n && nat_lt n vid))

pub HasAlso-more : (old now new : List ℕ) (first vid : ℕ) → first ≤ vid → HasAlso old first vid now → ((n : ℕ) → bit_of new n ≡ (bit_of now n || n == vid)) → HasAlso old first (vid + 1) new
HasAlso-more old now new first vid order before more n =
    more n
    ∙ ap (λ b. b || n == vid) (before n)
    ∙ or_assoc (bit_of old n) (nat_le first n && nat_lt n vid) (n == vid)
    ∙ ap (λ b. bit_of old n || b) (within_more first vid n order)

-- a bit outside the range stays
outside : (old new : List ℕ) (first vid n : ℕ) → HasAlso old first vid new → (nat_le first n && nat_lt n vid) ≡ false → bit_of old n ≡ false → bit_of new n ≡ false
outside old new first vid n bits out clear = bits n ∙ ap (λ b. b || (nat_le first n && nat_lt n vid)) clear ∙ out

pub IsKeptSet-also : (old new : List ℕ) (first vid : ℕ) → 1 ≤ first → vid ≤ 4095 → bit_of old 0 ≡ false → bit_of old 4095 ≡ false → length new ≡ 64 → ((i : ℕ) → get_or new i 0 < 2 ^ 64) → HasAlso old first vid new → IsKeptSet (record { words = new })
IsKeptSet-also old new first vid least greatest lowest highest long fits bits = record {
  long = long;
  fits = fits;
  first = outside old new first vid 0 bits (and_left (nat_le first 0) (nat_lt 0 vid) (lt-leb first 0 (omega arith))) lowest;
  last = outside old new first vid 4095 bits (and_right (nat_le first 4095) (nat_lt 4095 vid) (le-ltb 4095 vid (omega arith))) highest;
}

-- a set that is kept, and a range more
pub set_of_also : (vids : List Bool) (old new : List ℕ) (first last : ℕ) → set_where (bit_of old) ≡ vids → HasAlso old first (last + 1) new → set_where (bit_of new) ≡ set_where (λ n. has vids n || is_within (first, last) n)
set_of_also vids old new first last is bits = set_where-same (bit_of new) (λ n. has vids n || is_within (first, last) n) (λ n h.
    bits n
    ∙ ap (λ b. b || (nat_le first n && nat_lt n (last + 1))) (sym (has_is vids old n is h))
    ∙ ap (λ b. has vids n || (nat_le first n && b)) (at_most n last))
  where
    at_most : (n last : ℕ) → nat_lt n (last + 1) ≡ nat_le n last
    at_most n last = grind (arith, nat_tests)

-- a word that was written fits as the others do
pub fits-set : (words : List ℕ) (i word : ℕ) → ((j : ℕ) → get_or words j 0 < 2 ^ 64) → word < 2 ^ 64 → (j : ℕ) → get_or (set words i word) j 0 < 2 ^ 64
fits-set words i word fits small j = ⊎_elim same (λ other. subst (λ x. x < 2 ^ 64) (sym (get_or-set_other words i j word 0 other)) (fits j)) (cases_eq j i)
  where
    same : j ≡ i → get_or (set words i word) j 0 < 2 ^ 64
    same e = ⊎_elim
        (λ below. subst (λ x. x < 2 ^ 64) (sym (ap (λ k. get_or (set words i word) k 0) e ∙ get_or-set_same words i word 0 below)) small)
        (λ past. subst (λ x. x < 2 ^ 64) (sym (get_or_past (set words i word) j 0 (omega (arith, length-set words i word)))) (omega arith))
        (cases_lt i (length words))

-- a set has what its flags say
pub set_where-has : (test : ℕ → Bool) → set_where (has (set_where test)) ≡ set_where test
set_where-has test = set_where-same (has (set_where test)) test (has-set_where test)

-- ---- the words of all VIDs
-- all bits, but those of the two numbers that are no VIDs
abbrev pub all_words : List ℕ
all_words = set (set (replicate 64 18446744073709551615) 0 18446744073709551614) 63 9223372036854775807

-- what all elements pass, each does
each_passes : {X : Type 0} (p : X → Bool) (d : X) (xs : List X) (i : ℕ) → list_all p xs ≡ true → i < length xs → p (get_or xs i d) ≡ true
each_passes p d [] i all h = absurd (omega arith)
each_passes p d (x ∷ xs) zero all h = (and_parts (p x) (list_all p xs) all).0
each_passes p d (x ∷ xs) (suc i) all h = each_passes p d xs i (and_parts (p x) (list_all p xs) all).1 (omega arith)

all_bits : list_all (λ n. beq (bit_of all_words n) (is_vid n)) (range_with_len 0 4096) ≡ true
all_bits = refl

all_fit : list_all (λ word. nat_lt word (2 ^ 64)) all_words ≡ true
all_fit = refl

pub IsKeptSet-all : IsKeptSet (record { words = all_words })
IsKeptSet-all = record {
  long = refl;
  fits = λ i. ⊎_elim
      (λ below. ltb-true (get_or all_words i 0) (2 ^ 64) (each_passes (λ word. nat_lt word (2 ^ 64)) 0 all_words i all_fit below))
      (λ past. let none : get_or all_words i 0 ≡ 0 = get_or_past {X = ℕ} all_words i 0 past in omega arith)
      (cases_lt i 64);
  first = refl;
  last = refl;
}

plus_zero : (n : ℕ) → 0 + n ≡ n
plus_zero n = omega arith

pub set_of_all : set_where (bit_of all_words) ≡ set_where is_vid
set_of_all = set_where-same (bit_of all_words) is_vid (λ n h.
    (booleans_Decides (bit_of all_words n) (is_vid n)).0 (subst (λ m. beq (bit_of all_words m) (is_vid m) ≡ true) (get_or-range_with_len 0 4096 n 0 h ∙ plus_zero n) (each_passes (λ m. beq (bit_of all_words m) (is_vid m)) 0 (range_with_len 0 4096) n all_bits (omega (arith, length-range_with_len 0 4096)))))

-- ---- sets are equal where their words are
pub same_test : (x y : List Bool) (a b : Inside) → IsKeptSet a → IsKeptSet b → set_of a ≡ x → set_of b ≡ y → pointwise nat_eq a.words b.words ≡ pointwise beq x y
same_test x y a b h k p q =
    same_from_decides (pointwise nat_eq a.words b.words) (pointwise beq x y)
    (bytes_decides a.words b.words)
    (Decides-like (pointwise beq x y) same_words (λ e. sym p ∙ ap (λ words. set_where (bit_of words)) e ∙ q) (pointwise_decides booleans_Decides x y))
  where
    same_words : x ≡ y → a.words ≡ b.words
    same_words e = sym (words_of-set_where a.words h.long h.fits) ∙ ap words_of (p ∙ e ∙ sym q) ∙ words_of-set_where b.words k.long k.fits

-- ---- a word of zeros
-- a word with no bit has none of its numbers
pub misses_word : (vids : List Bool) (words : List ℕ) (block n : ℕ) → set_where (bit_of words) ≡ vids → block < 64 → get_or words block 0 ≡ 0 → n / 64 ≡ block → has vids n ≡ false
misses_word vids words block n is small zeros at =
    has_is vids words n is (omega arith) ∙ ap (λ (b : ℕ). bit_at (get_or words b 0) (n % 64) == 1) at ∙ ap (λ (word : ℕ). bit_at word (n % 64) == 1) zeros ∙ ap (λ b. b == 1) (bit_at-zero (n % 64))
