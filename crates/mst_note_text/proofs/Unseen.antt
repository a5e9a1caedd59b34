-- How many bridges were not come to.
use Rattle.std.proofs.Common.{◌≡◌, refl, sym, ap, ℕ, zero, suc, ◌+◌, ◌<◌, ◌≤◌, List, [], ◌∷◌, length, get_or, Bool, true, false, arith}
use Rattle.std.proofs.Math.ListN.{set}
use Rattle.std.proofs.lemmas.List.{get_or-set_same}
use Rattle.mst_note_text.specs.Walk.{IsSeen, unseen}

pub unseen_upto : (seen : List Bool) → unseen seen ≤ length seen
unseen_upto [] = omega arith
unseen_upto (true ∷ seen) = let h = unseen_upto seen in omega arith
unseen_upto (false ∷ seen) = let h = unseen_upto seen in omega arith

pub unseen_set : (seen : List Bool) (n : ℕ) → n < length seen → get_or seen n false ≡ false → unseen (set seen n true) + 1 ≡ unseen seen
unseen_set [] n low new = absurd (omega arith)
unseen_set (true ∷ seen) zero low new = cc
unseen_set (false ∷ seen) zero low new = refl
unseen_set (true ∷ seen) (suc n) low new = unseen_set seen n (omega arith) new
unseen_set (false ∷ seen) (suc n) low new = ap (λ (k : ℕ). k + 1) (unseen_set seen n (omega arith) new)

pub now_seen : (seen : List Bool) (n : ℕ) → n < length seen → IsSeen (set seen n true) n
now_seen seen n low = get_or-set_same seen n true false low

pub still_seen : (seen : List Bool) (n k : ℕ) → IsSeen seen k → IsSeen (set seen n true) k
still_seen [] n k s = s
still_seen (b ∷ seen) zero zero s = refl
still_seen (b ∷ seen) zero (suc k) s = s
still_seen (b ∷ seen) (suc n) zero s = s
still_seen (b ∷ seen) (suc n) (suc k) s = still_seen seen n k s

-- what was read at a place
pub read : {A : Type 0} (xs : List A) (n : ℕ) (x default : A) → n < length xs → x ≡ get_or xs n x → get_or xs n default ≡ x
read [] n x default low e = absurd (omega arith)
read (y ∷ xs) zero x default low e = sym e
read (y ∷ xs) (suc n) x default low e = read xs n x default (omega arith) e
