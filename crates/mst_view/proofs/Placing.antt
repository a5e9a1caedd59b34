-- The places of the elements of a list by their numbers, one element after another.
use Rattle.std.proofs.Common.{◌≡◌, ℕ, zero, suc, ◌+◌, ◌<◌, ◌≤◌, Bool, true, false, cond, nat_eq, List, [], ◌∷◌, ◌++◌, length, map, take, get_or, set, Option, Some, None, refl, sym, ap, ◌∙◌, arith}
use Rattle.std.specs.List.{find, slice_get}
use Rattle.std.specs.Option.{option_copied, option_map, option_and_then, option_or}
use Rattle.std.specs.Slice.{IsItemAt}
use Rattle.std.specs.Map.{lookup}
use Rattle.std.proofs.lemmas.List.{take_more, take_all, length-take-le}
use Rattle.std.proofs.lemmas.Option.{slice_get-get_or}
use denote.Bor.{Bor}
use Rattle.mst_view.specs.Places.{first_place, ArePlaces}

-- the first that passes is found at its place
first_found : {A : Type 0} (test : A → Bool) (xs : List A) → option_and_then (slice_get xs) (first_place test xs) ≡ find test xs
first_found test [] = refl
first_found {A} test (x ∷ xs) = go (test x) (first_found test xs)
  where
    shifted : (o : Option ℕ) → option_and_then (slice_get (x ∷ xs)) (option_map (λ k. suc k) o) ≡ option_and_then (slice_get xs) o
    shifted None = refl
    shifted (Some k) = refl

    go : (b : Bool) → option_and_then (slice_get xs) (first_place test xs) ≡ find test xs
        → option_and_then (slice_get (x ∷ xs)) (cond b (Some 0) (option_map (λ k. suc k) (first_place test xs))) ≡ cond b (Some x) (find test xs)
    go true h = refl
    go false h = shifted (first_place test xs) ∙ h

-- an element is found by its number at the place of that
pub places_found : {A : Type 0} (number : A → ℕ) (xs : List A) (place : ℕ → Option ℕ) → ArePlaces number xs place
    → (n : ℕ) → option_and_then (slice_get xs) (place n) ≡ find (λ x. nat_eq n (number x)) xs
places_found number xs place are n = ap (option_and_then (slice_get xs)) (are n) ∙ first_found (λ x. nat_eq n (number x)) xs

past_end : {A : Type 0} (xs : List A) (i : ℕ) → length xs ≤ i → slice_get xs i ≡ None
past_end [] i h = refl
past_end (x ∷ xs) zero h = absurd (omega arith)
past_end (x ∷ xs) (suc i) h = past_end xs i (omega arith)

-- what a reference to an element has
pub item_is : {A : Type 0} (xs : List A) (i : ℕ) (r : Option (Bor A)) → IsItemAt xs i r → option_copied r ≡ slice_get xs i
item_is xs i None h = sym (past_end xs i h.3)
item_is xs i (Some x) h = ap Some h.1 ∙ sym (slice_get-get_or xs i x.now h.3.0)

-- one more element behind the others
first_place-push : {A : Type 0} (test : A → Bool) (xs : List A) (x : A)
    → first_place test (xs ++ x ∷ []) ≡ option_or (first_place test xs) (cond (test x) (Some (length xs)) None)
first_place-push test [] x = refl
first_place-push {A} test (y ∷ xs) x = go (test y) (first_place-push test xs x)
  where
    shifted : (o : Option ℕ) (b : Bool) → option_map (λ k. suc k) (option_or o (cond b (Some (length xs)) None)) ≡ option_or (option_map (λ k. suc k) o) (cond b (Some (suc (length xs))) None)
    shifted (Some k) b = refl
    shifted None true = refl
    shifted None false = refl

    go : (b : Bool) → first_place test (xs ++ x ∷ []) ≡ option_or (first_place test xs) (cond (test x) (Some (length xs)) None)
        → cond b (Some 0) (option_map (λ k. suc k) (first_place test (xs ++ x ∷ [])))
        ≡ option_or (cond b (Some 0) (option_map (λ k. suc k) (first_place test xs))) (cond (test x) (Some (suc (length xs))) None)
    go true h = refl
    go false h = ap (option_map (λ k. suc k)) h ∙ shifted (first_place test xs) (test x)

-- an element of the same number in the place of another
pub place_kept : {A : Type 0} (number : A → ℕ) (n : ℕ) (xs : List A) (at : ℕ) (y d : A) → number y ≡ number (get_or xs at d)
    → first_place (λ x. nat_eq n (number x)) (set xs at y) ≡ first_place (λ x. nat_eq n (number x)) xs
place_kept number n [] at y d e = refl
place_kept number n (x ∷ xs) zero y d e = ap (λ m. cond (nat_eq n m) (Some 0) (option_map (λ k. suc k) (first_place (λ x. nat_eq n (number x)) xs))) e
place_kept number n (x ∷ xs) (suc at) y d e = ap (λ o. cond (nat_eq n (number x)) (Some 0) (option_map (λ k. suc k) o)) (place_kept number n xs at y d e)

module _ {A : Type 0} (number : A → ℕ) (xs : List A) where
  -- the places of the first elements
  pub record Placed (count : ℕ) (place : ℕ → Option ℕ) : Type 0 where
    pub found : (n : ℕ) → place n ≡ first_place (λ x. nat_eq n (number x)) (take count xs)

  pub none_placed : (place : ℕ → Option ℕ) → ((n : ℕ) → place n ≡ None) → Placed 0 place
  none_placed place none = record { found = none }

  pub all_placed : (count : ℕ) (place : ℕ → Option ℕ) → length xs ≤ count → Placed count place → ArePlaces number xs place
  all_placed count place whole p = λ n. p.found n ∙ ap (first_place (λ x. nat_eq n (number x))) (take_all count xs whole)

  -- a number keeps its place, and the element's has this one if it had none
  pub noted : (i : ℕ) (x : A) (old new : ℕ → Option ℕ) → i < length xs → x ≡ get_or xs i x → Placed i old
      → ((n : ℕ) → new n ≡ option_or (old n) (cond (nat_eq n (number x)) (Some i) None)) → Placed (i + 1) new
  noted i x old new below here p is = record { found = λ n. is n ∙ ap (λ o. option_or o (cond (nat_eq n (number x)) (Some i) None)) (p.found n) ∙ sym (one_more n) }
    where
      many : length (take i xs) ≡ i
      many = length-take-le i xs (omega arith)

      one_more : (n : ℕ) → first_place (λ y. nat_eq n (number y)) (take (i + 1) xs) ≡ option_or (first_place (λ y. nat_eq n (number y)) (take i xs)) (cond (nat_eq n (number x)) (Some i) None)
      one_more n =
          ap (first_place (λ y. nat_eq n (number y))) (take_more xs i x below ∙ ap (λ y. take i xs ++ y ∷ []) (sym here))
          ∙ first_place-push (λ y. nat_eq n (number y)) (take i xs) x
          ∙ ap (λ k. option_or (first_place (λ y. nat_eq n (number y)) (take i xs)) (cond (nat_eq n (number x)) (Some k) None)) many

-- a pair that is found by its number comes of the element that is found
pub pair_found : {A X : Type 0} (number : A → ℕ) (value : A → X) (n : ℕ) (xs : List A)
    → lookup (nat_eq n) (map (λ x. (number x, value x)) xs) ≡ option_map value (find (λ x. nat_eq n (number x)) xs)
pair_found number value n [] = refl
pair_found {A} {X} number value n (x ∷ xs) = go (nat_eq n (number x)) (pair_found number value n xs)
  where
    pairs : List (ℕ × X)
    pairs = map (λ x. (number x, value x)) xs

    rest : Option A
    rest = find (λ x. nat_eq n (number x)) xs

    go : (t : Bool) → lookup (nat_eq n) pairs ≡ option_map value rest → cond t (Some (value x)) (lookup (nat_eq n) pairs) ≡ option_map value (cond t (Some x) rest)
    go true h = refl
    go false h = h
