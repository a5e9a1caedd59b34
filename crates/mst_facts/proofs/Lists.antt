-- Lists in pieces, and look-ups.
use Rattle.std.proofs.Common.{◌≡◌, ◌||◌, Bool, true, false, cond, List, [], ◌∷◌, ◌++◌, map, Option, Some, None, refl, ap, subst, ◌∙◌}
use Rattle.std.specs.List.{AllByRecursion, Contains, find, filter_map, flat_map, cons_option, list_any}
use Rattle.std.specs.Option.{option_map, option_map_or, option_and_then}
use Rattle.mst_graph.proofs.Members.{here, there}
use Rattle.mst_forest.proofs.Lists.{some_is, no_some}

-- the texts of what is kept
pub flat_map-filter_map : {A B C : Type 0} (g : B → List C) (h : A → Option B) (xs : List A) → flat_map g (filter_map h xs) ≡ flat_map (λ x. option_map_or g (h x) []) xs
flat_map-filter_map g h [] = refl
flat_map-filter_map {A} {B} {C} g h (x ∷ xs) = go (h x) (flat_map-filter_map g h xs)
  where
    go : (o : Option B) → flat_map g (filter_map h xs) ≡ flat_map (λ x. option_map_or g (h x) []) xs
        → flat_map g (cons_option o (filter_map h xs)) ≡ option_map_or g o [] ++ flat_map (λ x. option_map_or g (h x) []) xs
    go None rest = rest
    go (Some y) rest = ap (λ l. g y ++ l) rest

-- what is kept of what is kept
pub filter_map-filter_map : {A B C : Type 0} (g : B → Option C) (h : A → Option B) (xs : List A) → filter_map g (filter_map h xs) ≡ filter_map (λ x. option_and_then g (h x)) xs
filter_map-filter_map g h [] = refl
filter_map-filter_map {A} {B} {C} g h (x ∷ xs) = go (h x) (filter_map-filter_map g h xs)
  where
    go : (o : Option B) → filter_map g (filter_map h xs) ≡ filter_map (λ x. option_and_then g (h x)) xs
        → filter_map g (cons_option o (filter_map h xs)) ≡ cons_option (option_and_then g o) (filter_map (λ x. option_and_then g (h x)) xs)
    go None rest = rest
    go (Some y) rest = ap (cons_option (g y)) rest

pub filter_map-none : {A B : Type 0} (h : A → Option B) → ((x : A) → h x ≡ None) → (xs : List A) → filter_map h xs ≡ []
filter_map-none h none [] = refl
filter_map-none h none (x ∷ xs) = ap (λ o. cons_option o (filter_map h xs)) (none x) ∙ filter_map-none h none xs

pub flat_map-same : {A B : Type 0} (f g : A → List B) (xs : List A) → AllByRecursion (λ x. f x ≡ g x) xs → flat_map f xs ≡ flat_map g xs
flat_map-same f g [] h = refl
flat_map-same f g (x ∷ xs) h = let first = h.0 in let rest = flat_map-same f g xs h.1 in λ i. first i ++ rest i

pub flat_map-none : {A B : Type 0} (f : A → List B) → ((x : A) → f x ≡ []) → (xs : List A) → flat_map f xs ≡ []
flat_map-none f none [] = refl
flat_map-none f none (x ∷ xs) = ap (λ l. l ++ flat_map f xs) (none x) ∙ flat_map-none f none xs

-- look-ups
pub find-map : {A B : Type 0} (test : B → Bool) (f : A → B) (xs : List A) → find test (map f xs) ≡ option_map f (find (λ x. test (f x)) xs)
find-map test f [] = refl
find-map {A} {B} test f (x ∷ xs) = go (test (f x)) (find-map test f xs)
  where
    go : (b : Bool) → find test (map f xs) ≡ option_map f (find (λ x. test (f x)) xs) → cond b (Some (f x)) (find test (map f xs)) ≡ option_map f (cond b (Some x) (find (λ x. test (f x)) xs))
    go true rest = refl
    go false rest = rest

pub find-found : {A : Type 0} (test : A → Bool) (xs : List A) (y : A) → find test xs ≡ Some y → Contains xs y × (test y ≡ true)
find-found test [] y e = absurd (no_some y e)
find-found {A} test (x ∷ xs) y e = go (test x) refl e (find-found test xs y)
  where
    go : (b : Bool) → test x ≡ b → cond b (Some x) (find test xs) ≡ Some y → (find test xs ≡ Some y → Contains xs y × (test y ≡ true)) → Contains (x ∷ xs) y × (test y ≡ true)
    go true t e rest = let s : x ≡ y = some_is x y e in (subst (Contains (x ∷ xs)) s (here x xs), subst (λ z. test z ≡ true) s t)
    go false t e rest = let r = rest e in (there x y xs r.0, r.1)

pub option_map-twice : {A B C : Type 0} (g : B → C) (f : A → B) (o : Option A) → option_map g (option_map f o) ≡ option_map (λ x. g (f x)) o
option_map-twice g f None = refl
option_map-twice g f (Some x) = refl

-- a test of what is made of the things
pub list_any-map : {A B : Type 0} (test : B → Bool) (f : A → B) (xs : List A) → list_any test (map f xs) ≡ list_any (λ x. test (f x)) xs
list_any-map test f [] = refl
list_any-map test f (x ∷ xs) = ap (λ b. test (f x) || b) (list_any-map test f xs)
