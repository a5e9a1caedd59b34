-- Lists in pieces.
use Rattle.std.proofs.Common.{◌≡◌, Bool, true, false, cond, List, [], ◌∷◌, ◌++◌, map, Option, None, refl, sym, ap, ◌∙◌}
use Rattle.std.specs.List.{AllByRecursion, filter, filter_map, flat_map, cons_option, zip}
use Rattle.std.proofs.lemmas.List.Elements.{filter_map-append}
use Rattle.mst_roles.specs.forest.Apart.{Apart}
use Rattle.mst_roles.proofs.forest_lemmas.Pieces.{all_append}

pub apart_append : {A : Type 0} (R : A → A → Type 0) (xs ys : List A) → Apart R xs → Apart R ys → AllByRecursion (λ x. AllByRecursion (R x) ys) xs → Apart R (xs ++ ys)
apart_append R [] ys h k both = k
apart_append R (x ∷ xs) ys h k both = (all_append (R x) xs ys h.0 both.0, apart_append R xs ys h.1 k both.1)

-- what is kept of all pieces
pub filter_map-flat_map : {A B C : Type 0} (h : B → Option C) (f : A → List B) (xs : List A) → filter_map h (flat_map f xs) ≡ flat_map (λ x. filter_map h (f x)) xs
filter_map-flat_map h f [] = refl
filter_map-flat_map h f (x ∷ xs) = filter_map-append h (f x) (flat_map f xs) ∙ ap (λ l. filter_map h (f x) ++ l) (filter_map-flat_map h f xs)

-- a test that only passes over what isn't kept
pub kept_passing : {A B : Type 0} (h : A → Option B) (test : A → Bool) → ((x : A) → test x ≡ false → h x ≡ None) → (xs : List A) → filter_map h (filter test xs) ≡ filter_map h xs
kept_passing h test none [] = refl
kept_passing {A} {B} h test none (x ∷ xs) = go (test x) refl (kept_passing h test none xs)
  where
    go : (b : Bool) → test x ≡ b → filter_map h (filter test xs) ≡ filter_map h xs → filter_map h (cond b (x ∷ filter test xs) (filter test xs)) ≡ cons_option (h x) (filter_map h xs)
    go true e rest = ap (cons_option (h x)) rest
    go false e rest = rest ∙ sym (ap (λ o. cons_option o (filter_map h xs)) (none x e))

-- what is kept of two lists that are made of one
pub filter_map-zip : {A B C D : Type 0} (h : B × C → Option D) (f : A → B) (g : A → C) (xs : List A) → filter_map h (zip (map f xs) (map g xs)) ≡ filter_map (λ x. h (f x, g x)) xs
filter_map-zip h f g [] = refl
filter_map-zip h f g (x ∷ xs) = ap (cons_option (h (f x, g x))) (filter_map-zip h f g xs)

-- a test that all pass, and one that none does
pub filter_all : {A : Type 0} (test : A → Bool) (xs : List A) → AllByRecursion (λ x. test x ≡ true) xs → filter test xs ≡ xs
filter_all test [] h = refl
filter_all test (x ∷ xs) h = λ i. cond (h.0 i) (x ∷ filter_all test xs h.1 i) (filter_all test xs h.1 i)

pub filter_none : {A : Type 0} (test : A → Bool) (xs : List A) → AllByRecursion (λ x. test x ≡ false) xs → filter test xs ≡ []
filter_none test [] h = refl
filter_none test (x ∷ xs) h = λ i. cond (h.0 i) (x ∷ filter_none test xs h.1 i) (filter_none test xs h.1 i)
