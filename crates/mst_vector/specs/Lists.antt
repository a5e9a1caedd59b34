-- Lemmas about vectors as lists of numbers, and about costs.
use Rattle.std.proofs.Common.{◌≡◌, ℕ, ◌<◌, ◌≤◌, List, [], ◌∷◌, ◌++◌, length, refl, Less, Equal, Greater, arith, Bool, true, false, ◌&&◌, IsTrue, nat_le, leb-true}
use Rattle.std.specs.declared.cmp.Ordering.{Ordering}
use Rattle.std.specs.Ordering.{nat_cmp, ordering_then, MatchOrdering}
use Rattle.std.specs.Cmp.Lexicographic.{slice_cmp}
use Rattle.std.proofs.lemmas.Cmp.{ranked, nat_cmp_total, tied_itself}
use Rattle.mst_vector.specs.Rules.{is_cost}

nat_cmp-less : (a b : ℕ) → a < b → nat_cmp a b ≡ Less
nat_cmp-less a b l = go (nat_cmp a b) (ranked a b (nat_cmp a b) refl)
  where
    go : (r : Ordering) → MatchOrdering r (a < b) (a ≡ b) (b < a) → r ≡ Less
    go Less h = refl
    go Equal h = absurd (omega arith)
    go Greater h = absurd (omega arith)

pub first_less : (a b : ℕ) (xs ys : List ℕ) → a < b → slice_cmp nat_cmp (a ∷ xs) (b ∷ ys) ≡ Less
first_less a b xs ys l = rw (nat_cmp-less a b l) refl

pub first_equal : (a : ℕ) (xs ys : List ℕ) → slice_cmp nat_cmp xs ys ≡ Less → slice_cmp nat_cmp (a ∷ xs) (a ∷ ys) ≡ Less
first_equal a xs ys h = rw (tied_itself nat_cmp_total a) h

-- lists that compare as equal are equal
pub same_list : (xs ys : List ℕ) → slice_cmp nat_cmp xs ys ≡ Equal → xs ≡ ys
same_list [] [] e = refl
same_list [] (y ∷ ys) e = cc
same_list (x ∷ xs) [] e = cc
same_list (x ∷ xs) (y ∷ ys) e = go (nat_cmp x y) (ranked x y (nat_cmp x y) refl) e (same_list xs ys)
  where
    go : (r : Ordering) → MatchOrdering r (x < y) (x ≡ y) (y < x) → ordering_then r (slice_cmp nat_cmp xs ys) ≡ Equal → (slice_cmp nat_cmp xs ys ≡ Equal → xs ≡ ys) → x ∷ xs ≡ y ∷ ys
    go Less h e rest = cc
    go Equal h e rest = let t = rest e in cc
    go Greater h e rest = cc

-- a lower first part decides
pub first_part_less : (xs ys us vs : List ℕ) → length xs ≡ length ys → slice_cmp nat_cmp xs ys ≡ Less → slice_cmp nat_cmp (xs ++ us) (ys ++ vs) ≡ Less
first_part_less [] [] us vs l e = cc
first_part_less [] (y ∷ ys) us vs l e = cc
first_part_less (x ∷ xs) [] us vs l e = cc
first_part_less (x ∷ xs) (y ∷ ys) us vs l e = go (nat_cmp x y) e (first_part_less xs ys us vs (omega arith))
  where
    go : (r : Ordering) → ordering_then r (slice_cmp nat_cmp xs ys) ≡ Less → (slice_cmp nat_cmp xs ys ≡ Less → slice_cmp nat_cmp (xs ++ us) (ys ++ vs) ≡ Less) → ordering_then r (slice_cmp nat_cmp (xs ++ us) (ys ++ vs)) ≡ Less
    go Less e rest = refl
    go Equal e rest = rest e
    go Greater e rest = cc

pub and_true : (a b : Bool) → IsTrue (a && b) → IsTrue a × IsTrue b
and_true true b h = (refl, h)
and_true false b h = cc

pub is_cost-is : (n : ℕ) → IsTrue (is_cost n) → (1 ≤ n) × (n ≤ 200_000_000)
is_cost-is n h = let p = and_true (nat_le 1 n) (nat_le n 200_000_000) h in (leb-true 1 n p.0, leb-true n 200_000_000 p.1)
