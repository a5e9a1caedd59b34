-- Places of keys in a list.
use Rattle.std.proofs.Common.{◌≡◌, ℕ, ◌+◌, ◌<◌, ◌≤◌, inl, inr, Bool, true, false, cond, not, ◌||◌, nat_eq, true≢false, eq-eqb, List, [], ◌∷◌, ◌++◌, Some, None, length, get_or, ltb, suc, refl, sym, subst, ap, ◌∙◌, arith}
use Rattle.std.specs.Prelude.{position, unwrap_or}
use Rattle.std.specs.Cmp.{IsEquivalence}
use Rattle.std.specs.List.{Contains, list_any, position_or_len}
use Rattle.mst_graph.proofs.Members.{passing}
use Rattle.std.proofs.lemmas.Bool.{eqb-true, ltb-false, or_cases}
use Rattle.std.proofs.lemmas.List.Folds.{list_any-append, list_any_at}
use Rattle.std.proofs.lemmas.List.Sums.{prefix_len-le-length}

-- a key that was met before, or is the next
pub met_more : {K : Type 0} (same : K → K → Bool) → IsEquivalence same → (xs old new : List K) (x q : K) → (list_any (same q) xs ≡ true → list_any (same q) old ≡ true)
    → list_any (same q) new ≡ cond (same x q) true (list_any (same q) old) → list_any (same q) (xs ++ x ∷ []) ≡ true → list_any (same q) new ≡ true
met_more same laws xs old new x q before after h =
    after ∙ (elim (or_cases (list_any (same q) xs) (same q x || false) (sym (list_any-append (same q) xs (x ∷ [])) ∙ h)) [
      | inl a ↦ ap (cond (same x q) true) (before a) ∙ both (same x q)
      | inr a ↦ ap (λ b. cond b true (list_any (same q) old)) (laws.symm x q ∙ alone (same q x) a)
    ])
  where
    both : (b : Bool) → cond b true true ≡ true
    both true = refl
    both false = refl

    alone : (b : Bool) → b || false ≡ true → b ≡ true
    alone true e = refl
    alone false e = e

-- the place of a key, or else the length
pub place_or_length : {K : Type 0} (test : K → Bool) (xs : List K) → unwrap_or (position test xs) (length xs) ≡ position_or_len test xs
place_or_length test xs = go (ltb (position_or_len test xs) (length xs)) refl
  where
    within : position_or_len test xs ≤ length xs
    within = prefix_len-le-length (λ x. not (test x)) xs

    go : (b : Bool) → ltb (position_or_len test xs) (length xs) ≡ b → unwrap_or (cond b (Some (position_or_len test xs)) None) (length xs) ≡ position_or_len test xs
    go true e = refl
    go false e =
        let past : length xs ≤ position_or_len test xs = ltb-false (position_or_len test xs) (length xs) e in
        let upto : position_or_len test xs ≤ length xs = within in
        omega arith

-- a number that is there stands at its place
pub found_at : (n : ℕ) (xs : List ℕ) → list_any (nat_eq n) xs ≡ true → (position_or_len (nat_eq n) xs < length xs) × (get_or xs (position_or_len (nat_eq n) xs) 0 ≡ n)
found_at n [] h = absurd (true≢false (sym h))
found_at n (x ∷ xs) h = go (nat_eq n x) refl h (found_at n xs)
  where
    one_up : (k : ℕ) → 1 + k ≡ suc k
    one_up k = omega arith

    go : (b : Bool) → nat_eq n x ≡ b → b || list_any (nat_eq n) xs ≡ true
        → (list_any (nat_eq n) xs ≡ true → (position_or_len (nat_eq n) xs < length xs) × (get_or xs (position_or_len (nat_eq n) xs) 0 ≡ n))
        → (cond (not b) (1 + position_or_len (nat_eq n) xs) 0 < length (x ∷ xs)) × (get_or (x ∷ xs) (cond (not b) (1 + position_or_len (nat_eq n) xs) 0) 0 ≡ n)
    go true e h rest = (omega arith, sym (eqb-true n x e))
    go false e h rest =
        let r = rest h in
        let below : position_or_len (nat_eq n) xs < length xs = r.0 in
        (omega arith, ap (λ k. get_or (x ∷ xs) k 0) (one_up (position_or_len (nat_eq n) xs)) ∙ r.1)

-- a number that a search finds is there
pub searched : (n : ℕ) (xs : List ℕ) → list_any (λ y. nat_eq y n) xs ≡ true → Contains xs n
searched n xs h = let r = passing (λ y. nat_eq y n) xs h in subst (Contains xs) (eqb-true r.0 n r.2) r.1

pub searched_back : (n : ℕ) (xs : List ℕ) → Contains xs n → list_any (λ y. nat_eq y n) xs ≡ true
searched_back n xs h = list_any_at (λ y. nat_eq y n) xs h.0 n h.1 (eq-eqb (get_or xs h.0 n) n h.2)
