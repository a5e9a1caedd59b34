-- What is found in a list.
use Rattle.std.proofs.Common.{◌≡◌, ℕ, ◌+◌, ◌<◌, Bool, true, false, cond, List, [], ◌∷◌, ◌++◌, map, length, take, get_or, Option, Some, refl, sym, ap, ◌∙◌}
use Rattle.std.specs.List.{find, filter_map, cons_option}
use Rattle.std.specs.Option.{option_map}
use Rattle.std.proofs.lemmas.List.{take_more}
use Rattle.std.proofs.lemmas.List.Elements.{filter_map-append}
use Rattle.mst_roles.proofs.forest_lemmas.Lists.{some_is, no_some}

-- the first of a changed list
pub find_changed : {A B : Type 0} (test : B → Bool) (f : A → B) (xs : List A) → find test (map f xs) ≡ option_map f (find (λ x. test (f x)) xs)
find_changed test f [] = refl
find_changed {A} {B} test f (x ∷ xs) = go (test (f x)) (find_changed test f xs)
  where
    go : (b : Bool) → find test (map f xs) ≡ option_map f (find (λ x. test (f x)) xs)
        → cond b (Some (f x)) (find test (map f xs)) ≡ option_map f (cond b (Some x) (find (λ x. test (f x)) xs))
    go true e = refl
    go false e = e

-- what is found passes the test
pub found_passes : {A : Type 0} (test : A → Bool) (xs : List A) (x : A) → find test xs ≡ Some x → test x ≡ true
found_passes test [] x e = absurd (no_some x e)
found_passes {A} test (y ∷ ys) x e = go (test y) refl e (found_passes test ys x)
  where
    go : (b : Bool) → test y ≡ b → cond b (Some y) (find test ys) ≡ Some x → (find test ys ≡ Some x → test x ≡ true) → test x ≡ true
    go true t f rest = ap test (sym (some_is y x f)) ∙ t
    go false t f rest = rest f

-- what is kept of one more element
pub kept_more : {A B : Type 0} (h : A → Option B) (xs : List A) (i : ℕ) (x : A) → i < length xs → x ≡ get_or xs i x → (now new : List B) → now ≡ filter_map h (take i xs) → new ≡ now ++ cons_option (h x) []
    → new ≡ filter_map h (take (i + 1) xs)
kept_more h xs i x below here now new before after =
    after ∙ ap (λ l. l ++ cons_option (h x) []) before
    ∙ sym (ap (filter_map h) (take_more xs i x below ∙ ap (λ y. take i xs ++ y ∷ []) (sym here)) ∙ filter_map-append h (take i xs) (x ∷ []))
