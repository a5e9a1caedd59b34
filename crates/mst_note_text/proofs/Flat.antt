-- Rows of places and of things.
use Rattle.std.proofs.Common.{◌≡◌, ℕ, zero, suc, ◌+◌, List, [], ◌∷◌, ◌++◌, map, length, Option, Some, None, refl, sym, ap, subst, ◌∙◌, arith, append_assoc, add-zero, append-nil}
use Rattle.std.specs.Prelude.{slice_get}
use Rattle.std.specs.List.{flat_map, filter_map, cons_option, range_with_len, AllByRecursion}
use Rattle.std.specs.Option.{option_map_or}
use Rattle.std.proofs.lemmas.Grind.{flat_map-append}
use Rattle.mst_rows.specs.Rows.{Row}

plus_suc : (a n : ℕ) → a + 1 + n ≡ a + suc n
plus_suc a n = omega arith

range_more : (a n : ℕ) → range_with_len a (suc n) ≡ range_with_len a n ++ (a + n) ∷ []
range_more a zero = ap (λ k. k ∷ []) (sym (add-zero a))
range_more a (suc n) = ap (λ l. a ∷ l) (range_more (a + 1) n ∙ ap (λ k. range_with_len (a + 1) n ++ k ∷ []) (plus_suc a n))

plus_one : (n : ℕ) → n + 1 ≡ suc n
plus_one n = omega arith

zero_plus : (n : ℕ) → 0 + n ≡ n
zero_plus n = omega arith

-- the rows of the numbers below one, and its own
pub numbers_more : (grown : List Row → Type 0) (f : ℕ → List Row) (n : ℕ) (rows : List Row) → grown ((rows ++ flat_map f (range_with_len 0 n)) ++ f n) → grown (rows ++ flat_map f (range_with_len 0 (n + 1)))
numbers_more grown f n rows =
    subst grown (
    append_assoc rows (flat_map f (range_with_len 0 n)) (f n)
    ∙ ap (λ (t : List Row). rows ++ (flat_map f (range_with_len 0 n) ++ t)) (sym (append-nil (f n)) ∙ ap (λ k. flat_map f (k ∷ [])) (sym (zero_plus n)))
    ∙ ap (λ (t : List Row). rows ++ t) (sym (flat_map-append f (range_with_len 0 n) ((0 + n) ∷ [])) ∙ ap (flat_map f) (sym (range_more 0 n) ∙ ap (range_with_len 0) (sym (plus_one n))))
    )

-- texts by places are texts of the things there
at_places : {A B : Type 0} (f : ℕ → List B) (g : A → List B) (xs : List A) (a : ℕ) → ((n : ℕ) (x : A) → slice_get xs n ≡ Some x → f (a + n) ≡ g x) → flat_map f (range_with_len a (length xs)) ≡ flat_map g xs
at_places f g [] a same = refl
at_places f g (x ∷ xs) a same =
    let first : f a ≡ g x = ap f (sym (add-zero a)) ∙ same 0 x refl in
    let rest = at_places f g xs (a + 1) (λ n y e. ap f (plus_suc a n) ∙ same (suc n) y e) in
    λ i. first i ++ rest i

pub by_places : {A B : Type 0} (f : ℕ → List B) (g : A → List B) (xs : List A) → ((n : ℕ) (x : A) → slice_get xs n ≡ Some x → f n ≡ g x) → flat_map f (range_with_len 0 (length xs)) ≡ flat_map g xs
by_places f g xs same = at_places f g xs 0 (λ n x e. ap f (zero_plus n) ∙ same n x e)

-- texts of those that a test keeps
pub of_kept : {A B C : Type 0} (g : B → List C) (h : A → Option B) (xs : List A) → flat_map g (filter_map h xs) ≡ flat_map (λ x. option_map_or g (h x) []) xs
of_kept g h [] = refl
of_kept {A} {B} {C} g h (x ∷ xs) = go (h x) ∙ ap (λ t. option_map_or g (h x) [] ++ t) (of_kept g h xs)
  where
    go : (o : Option B) → flat_map g (cons_option o (filter_map h xs)) ≡ option_map_or g o [] ++ flat_map g (filter_map h xs)
    go None = refl
    go (Some y) = refl

-- texts of changed things
pub of_changed : {A B C : Type 0} (g : B → List C) (f : A → B) (h : A → List C) (xs : List A) → AllByRecursion (λ x. h x ≡ g (f x)) xs → flat_map h xs ≡ flat_map g (map f xs)
of_changed g f h [] a = refl
of_changed g f h (x ∷ xs) a = λ i. a.0 i ++ of_changed g f h xs a.1 i

-- texts of which each is empty
pub all_empty : {A B : Type 0} (f : A → List B) (xs : List A) → ((x : A) → f x ≡ []) → flat_map f xs ≡ []
all_empty f [] none = refl
all_empty f (x ∷ xs) none = (λ i. none x i ++ all_empty f xs none i)

-- texts of changed things, each by what it is changed to
pub of_mapped : {A B C : Type 0} (g : B → List C) (f : A → B) (xs : List A) → flat_map (λ x. g (f x)) xs ≡ flat_map g (map f xs)
of_mapped g f [] = refl
of_mapped g f (x ∷ xs) = ap (λ t. g (f x) ++ t) (of_mapped g f xs)
