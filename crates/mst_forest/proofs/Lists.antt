-- What is true of each element of a list, and of any two.
use Rattle.std.proofs.Common.{◌≡◌, ℕ, suc, zero, ◌<◌, ◌≤◌, Bool, true, false, cond, ◌||◌, List, [], ◌∷◌, ◌++◌, length, take, get_or, map, Option, Some, None, refl, sym, ap, subst, ◌∙◌, arith, true≢false, is_some, ◌⊎◌, inl, inr}
use Rattle.std.specs.List.{AllByRecursion, Contains, filter, filter_map, cons_option, list_any}
use Rattle.std.proofs.lemmas.Bool.{cases_Bool}
use Rattle.std.specs.Option.{unwrap_or}
use Rattle.mst_forest.specs.Apart.{Apart}
use Rattle.mst_forest.proofs.Entries.{all_weaker, all_both}

pub some_is : {A : Type 0} (x y : A) → Some x ≡ Some y → x ≡ y
some_is x y e = ap (λ o. unwrap_or o x) e

pub no_some : {A : Type 0} (x : A) → None ≡ Some x → ⊥
no_some x e = true≢false (ap is_some (sym e))

pub all_mapped : {A B : Type 0} (P : B → Type 0) (f : A → B) (xs : List A) → AllByRecursion (λ x. P (f x)) xs → AllByRecursion P (map f xs)
all_mapped P f [] h = tt
all_mapped P f (x ∷ xs) h = (h.0, all_mapped P f xs h.1)

-- a fact of each element, at a place
pub all_at : {A : Type 0} (P : A → Type 0) (xs : List A) (i : ℕ) (d : A) → i < length xs → AllByRecursion P xs → P (get_or xs i d)
all_at P [] i d l h = absurd (omega arith)
all_at P (x ∷ xs) zero d l h = h.0
all_at P (x ∷ xs) (suc i) d l h = all_at P xs i d (omega arith) h.1

pub all_contained : {A : Type 0} (P : A → Type 0) (xs : List A) (x : A) → AllByRecursion P xs → Contains xs x → P x
all_contained P xs x h c = subst P c.2 (all_at P xs c.0 x c.1 h)

-- what a test of the elements keeps
pub all_kept : {A B : Type 0} (P : A → Type 0) (Q : B → Type 0) (h : A → Option B) → ((x : A) (y : B) → P x → h x ≡ Some y → Q y) → (xs : List A) → AllByRecursion P xs → AllByRecursion Q (filter_map h xs)
all_kept P Q h f [] p = tt
all_kept {A} {B} P Q h f (x ∷ xs) p = go (h x) refl (all_kept P Q h f xs p.1)
  where
    go : (o : Option B) → h x ≡ o → AllByRecursion Q (filter_map h xs) → AllByRecursion Q (cons_option o (filter_map h xs))
    go None e rest = rest
    go (Some y) e rest = (f x y p.0 e, rest)

-- and of any two of them
pub apart_kept : {A B : Type 0} (R : A → A → Type 0) (S : B → B → Type 0) (h : A → Option B) → ((x y : A) (a b : B) → R x y → h x ≡ Some a → h y ≡ Some b → S a b) → (xs : List A) → Apart R xs → Apart S (filter_map h xs)
apart_kept R S h f [] p = tt
apart_kept {A} {B} R S h f (x ∷ xs) p = go (h x) refl (apart_kept R S h f xs p.1)
  where
    go : (o : Option B) → h x ≡ o → Apart S (filter_map h xs) → Apart S (cons_option o (filter_map h xs))
    go None e rest = rest
    go (Some a) e rest = (all_kept (R x) (S a) h (λ y b r k. f x y a b r e k) xs p.0, rest)

pub apart_mapped : {A B : Type 0} (R : A → A → Type 0) (S : B → B → Type 0) (f : A → B) → ((x y : A) → R x y → S (f x) (f y)) → (xs : List A) → Apart R xs → Apart S (map f xs)
apart_mapped R S f g [] p = tt
apart_mapped {A} R S f g (x ∷ xs) p = (all_mapped (S (f x)) f xs (go xs p.0), apart_mapped R S f g xs p.1)
  where
    go : (ys : List A) → AllByRecursion (R x) ys → AllByRecursion (λ y. S (f x) (f y)) ys
    go [] h = tt
    go (y ∷ ys) h = (g x y h.0, go ys h.1)

-- the elements before a place, and the one there
pub apart_at : {A : Type 0} (R : A → A → Type 0) (xs : List A) (i : ℕ) (d : A) → i < length xs → Apart R xs → AllByRecursion (λ x. R x (get_or xs i d)) (take i xs)
apart_at R [] i d l h = absurd (omega arith)
apart_at R (x ∷ xs) zero d l h = tt
apart_at R (x ∷ xs) (suc i) d l h = (all_at (R x) xs i d (omega arith) h.0, apart_at R xs i d (omega arith) h.1)

-- an element and those before it
after_all : {A : Type 0} (P : A → Type 0) (xs ys : List A) (y : A) → AllByRecursion P (xs ++ y ∷ ys) → P y
after_all P [] ys y h = h.0
after_all P (x ∷ xs) ys y h = after_all P xs ys y h.1

pub apart_before : {A : Type 0} (R : A → A → Type 0) (xs ys : List A) (x y : A) → Apart R (xs ++ y ∷ ys) → Contains xs x → R x y
apart_before R [] ys x y h c = let l = c.1 in absurd (omega arith)
apart_before R (z ∷ zs) ys x y h c = go c.0 c.1 c.2 (apart_before R zs ys x y h.1)
  where
    go : (k : ℕ) → k < length (z ∷ zs) → get_or (z ∷ zs) k x ≡ x → (Contains zs x → R x y) → R x y
    go zero l e rest = subst (λ w. R w y) e (after_all (R z) zs ys y h.0)
    go (suc k) l e rest = rest (k, omega arith, e)

pub there_first : {A : Type 0} (x : A) (xs : List A) → Contains (x ∷ xs) x
there_first x xs = (0, omega arith, refl)

pub there_later : {A : Type 0} (x y : A) (xs : List A) → Contains xs x → Contains (y ∷ xs) x
there_later x y xs c = let l = c.1 in (suc c.0, omega arith, c.2)

pub contains_mapped : {A B : Type 0} (f : A → B) (xs : List A) (x : A) → Contains xs x → Contains (map f xs) (f x)
contains_mapped f [] x c = let l = c.1 in absurd (omega arith)
contains_mapped f (y ∷ xs) x c = go c.0 c.1 c.2 (contains_mapped f xs x)
  where
    go : (k : ℕ) → k < length (y ∷ xs) → get_or (y ∷ xs) k x ≡ x → (Contains xs x → Contains (map f xs) (f x)) → Contains (map f (y ∷ xs)) (f x)
    go zero l e rest = subst (λ z. Contains (map f (y ∷ xs)) (f z)) e (there_first (f y) (map f xs))
    go (suc k) l e rest = there_later (f x) (f y) (map f xs) (rest (k, omega arith, e))

-- some element passes a test
pub passed : {A : Type 0} (test : A → Bool) (xs : List A) → list_any test xs ≡ true → (x : A) × Contains xs x × (test x ≡ true)
passed test [] h = absurd (true≢false (sym h))
passed {A} test (x ∷ xs) h = go (test x) refl h (passed test xs)
  where
    go : (b : Bool) → test x ≡ b → (b || list_any test xs) ≡ true → (list_any test xs ≡ true → (y : A) × Contains xs y × (test y ≡ true)) → (y : A) × Contains (x ∷ xs) y × (test y ≡ true)
    go true e k rest = (x, there_first x xs, e)
    go false e k rest = let r = rest k in (r.0, there_later r.0 x xs r.1, r.2)

-- each element is in its list
pub all_there : {A : Type 0} (xs : List A) → AllByRecursion (Contains xs) xs
all_there [] = tt
all_there {A} (x ∷ xs) = (there_first x xs, more xs (all_there xs))
  where
    more : (ys : List A) → AllByRecursion (Contains xs) ys → AllByRecursion (Contains (x ∷ xs)) ys
    more [] h = tt
    more (y ∷ ys) h = (there_later y x xs h.0, more ys h.1)

-- two elements of a list are one, or related in one order or the other
pub apart_cases : {A : Type 0} (R : A → A → Type 0) (xs : List A) (x y : A) → Apart R xs → Contains xs x → Contains xs y → (x ≡ y) ⊎ (R x y ⊎ R y x)
apart_cases R [] x y h c d = let l = c.1 in absurd (omega arith)
apart_cases R (z ∷ zs) x y h c d = go c.0 d.0 c.1 d.1 c.2 d.2 (apart_cases R zs x y h.1)
  where
    go : (j k : ℕ) → j < length (z ∷ zs) → k < length (z ∷ zs) → get_or (z ∷ zs) j x ≡ x → get_or (z ∷ zs) k y ≡ y
        → (Contains zs x → Contains zs y → (x ≡ y) ⊎ (R x y ⊎ R y x)) → (x ≡ y) ⊎ (R x y ⊎ R y x)
    go zero zero l m e f rest = inl (sym e ∙ f)
    go zero (suc k) l m e f rest = inr (inl (subst (λ w. R w y) e (all_contained (R z) zs y h.0 (k, omega arith, f))))
    go (suc j) zero l m e f rest = inr (inr (subst (λ w. R w x) f (all_contained (R z) zs x h.0 (j, omega arith, e))))
    go (suc j) (suc k) l m e f rest = rest (j, omega arith, e) (k, omega arith, f)

-- what is true of each element that passes a test
pub all_passing : {A : Type 0} (P Q : A → Type 0) (test : A → Bool) → ((x : A) → P x → test x ≡ true → Q x) → (xs : List A) → AllByRecursion P xs → AllByRecursion Q (filter test xs)
all_passing P Q test f [] h = tt
all_passing P Q test f (x ∷ xs) h = elim (cases_Bool (test x)) [
  | inl e ↦ rw e (f x h.0 e, all_passing P Q test f xs h.1)
  | inr e ↦ rw e (all_passing P Q test f xs h.1)
]

-- and of any two of them
pub apart_filtered : {A : Type 0} (R : A → A → Type 0) (test : A → Bool) (xs : List A) → Apart R xs → Apart R (filter test xs)
apart_filtered R test [] h = tt
apart_filtered R test (x ∷ xs) h = elim (cases_Bool (test x)) [
  | inl e ↦ rw e (all_passing (R x) (R x) test (λ y r _. r) xs h.0, apart_filtered R test xs h.1)
  | inr e ↦ rw e (apart_filtered R test xs h.1)
]

-- the changed elements that pass are those that pass once changed
pub filter_mapped : {A B : Type 0} (test : B → Bool) (f : A → B) (xs : List A) → filter test (map f xs) ≡ map f (filter (λ x. test (f x)) xs)
filter_mapped test f [] = refl
filter_mapped test f (x ∷ xs) = elim (cases_Bool (test (f x))) [
  | inl e ↦ rw e (ap (λ l. f x ∷ l) (filter_mapped test f xs))
  | inr e ↦ rw e (filter_mapped test f xs)
]

-- a list that is changed twice
pub mapped_twice : {A B C : Type 0} (g : B → C) (f : A → B) (xs : List A) → map g (map f xs) ≡ map (λ x. g (f x)) xs
mapped_twice g f [] = refl
mapped_twice g f (x ∷ xs) = ap (λ l. g (f x) ∷ l) (mapped_twice g f xs)

-- no more pass a test than there are
pub length_filtered : {A : Type 0} (test : A → Bool) (xs : List A) → length (filter test xs) ≤ length xs
length_filtered test [] = omega arith
length_filtered test (x ∷ xs) = elim (cases_Bool (test x)) [ inl e ↦ rw e (omega (arith, length_filtered test xs)) | inr e ↦ rw e (omega (arith, length_filtered test xs)) ]

-- each element that passes is among those that do
all_filtered : {A : Type 0} (test : A → Bool) (xs : List A) → AllByRecursion (λ x. test x ≡ true → Contains (filter test xs) x) xs
all_filtered test [] = tt
all_filtered {A} test (x ∷ xs) = (λ t. subst (λ b. Contains (cond b (x ∷ filter test xs) (filter test xs)) x) (sym t) (there_first x (filter test xs)), later (test x) (all_filtered test xs))
  where
    later : (b : Bool) → AllByRecursion (λ y. test y ≡ true → Contains (filter test xs) y) xs → AllByRecursion (λ y. test y ≡ true → Contains (cond b (x ∷ filter test xs) (filter test xs)) y) xs
    later true h = all_weaker _ _ (λ y c t. there_later y x (filter test xs) (c t)) xs h
    later false h = h

-- and so is this one
pub contains_filtered : {A : Type 0} (test : A → Bool) (xs : List A) (x : A) → Contains xs x → test x ≡ true → Contains (filter test xs) x
contains_filtered test xs x = all_contained (λ x. test x ≡ true → Contains (filter test xs) x) xs x (all_filtered test xs)

-- a fact of each changed element
pub all_unmapped : {A B : Type 0} (P : B → Type 0) (f : A → B) (xs : List A) → AllByRecursion P (map f xs) → AllByRecursion (λ x. P (f x)) xs
all_unmapped P f [] h = tt
all_unmapped P f (x ∷ xs) h = (h.0, all_unmapped P f xs h.1)

pub apart_unmapped : {A B : Type 0} (R : B → B → Type 0) (f : A → B) (xs : List A) → Apart R (map f xs) → Apart (λ x y. R (f x) (f y)) xs
apart_unmapped R f [] h = tt
apart_unmapped R f (x ∷ xs) h = (all_unmapped (R (f x)) f xs h.0, apart_unmapped R f xs h.1)

-- any two elements are related, and each has a fact
pub apart_with : {A : Type 0} (R : A → A → Type 0) (P : A → Type 0) (S : A → A → Type 0) → ((x y : A) → R x y → P x → P y → S x y) → (xs : List A) → Apart R xs → AllByRecursion P xs → Apart S xs
apart_with R P S f [] h p = tt
apart_with R P S f (x ∷ xs) h p = (all_both (R x) P (S x) (λ y r q. f x y r p.0 q) xs h.0 p.1, apart_with R P S f xs h.1 p.1)

-- any two elements are related more weakly
pub apart_weaker : {A : Type 0} (R S : A → A → Type 0) → ((x y : A) → R x y → S x y) → (xs : List A) → Apart R xs → Apart S xs
apart_weaker R S f [] h = tt
apart_weaker R S f (x ∷ xs) h = (all_weaker (R x) (S x) (f x) xs h.0, apart_weaker R S f xs h.1)

-- an element of the changed list comes of one
pub contains_unmapped : {A B : Type 0} (f : A → B) (xs : List A) (y : B) → Contains (map f xs) y → (x : A) × Contains xs x × (f x ≡ y)
contains_unmapped {A} {B} f xs y c =
    all_contained (λ z. (x : A) × Contains xs x × (f x ≡ z)) (map f xs) y
    (all_mapped (λ z. (x : A) × Contains xs x × (f x ≡ z)) f xs (all_weaker (Contains xs) _ (λ x h. (x, h, refl)) xs (all_there xs))) c

-- what a test that changes elements keeps of one
pub kept_in : {A B : Type 0} (h : A → Option B) (xs : List A) (x : A) (y : B) → Contains xs x → h x ≡ Some y → Contains (filter_map h xs) y
kept_in {A} {B} h xs x y c e = all_contained (λ x. (y : B) → h x ≡ Some y → Contains (filter_map h xs) y) xs x (each xs) c y e
  where
    each : (xs : List A) → AllByRecursion (λ x. (y : B) → h x ≡ Some y → Contains (filter_map h xs) y) xs
    each [] = tt
    each (x ∷ xs) = (first (h x), later (h x) xs (each xs))
      where
        first : (o : Option B) → (y : B) → o ≡ Some y → Contains (cons_option o (filter_map h xs)) y
        first None y e = absurd (no_some y e)
        first (Some z) y e = subst (Contains (z ∷ filter_map h xs)) (some_is z y e) (there_first z (filter_map h xs))

        later : (o : Option B) → (ys : List A) → AllByRecursion (λ x. (y : B) → h x ≡ Some y → Contains (filter_map h xs) y) ys
            → AllByRecursion (λ x. (y : B) → h x ≡ Some y → Contains (cons_option o (filter_map h xs)) y) ys
        later o [] h = tt
        later None (y ∷ ys) h = h
        later (Some z) (y ∷ ys) k = (λ w e. there_later w z (filter_map h xs) (k.0 w e), later (Some z) ys k.1)

-- and what it keeps comes of one
pub kept_from : {A B : Type 0} (h : A → Option B) (xs : List A) (y : B) → Contains (filter_map h xs) y → (x : A) × Contains xs x × (h x ≡ Some y)
kept_from {A} {B} h xs y c =
    all_contained (λ y. (x : A) × Contains xs x × (h x ≡ Some y)) (filter_map h xs) y
    (all_kept (Contains xs) (λ y. (x : A) × Contains xs x × (h x ≡ Some y)) h (λ x y there e. (x, there, e)) xs (all_there xs)) c

-- two such tests that agree on each element
pub kept_same : {A B : Type 0} (g h : A → Option B) (xs : List A) → AllByRecursion (λ x. g x ≡ h x) xs → filter_map g xs ≡ filter_map h xs
kept_same g h [] a = refl
kept_same g h (x ∷ xs) a = λ i. cons_option (a.0 i) (kept_same g h xs a.1 i)
