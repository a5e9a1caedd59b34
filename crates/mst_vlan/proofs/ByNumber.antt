-- Lists of numbers beside the lists of what has them.
use Rattle.std.proofs.Common.{◌≡◌, ℕ, ◌==◌, ◌+◌, ◌<◌, List, [], ◌∷◌, ◌++◌, length, take, get_or, map, Option, Some, None, sym, ap, ◌∙◌, eq-eqb}
use Rattle.std.specs.List.{AllByRecursion, Contains, cons_option, filter_map, find}
use Rattle.std.specs.Option.{option_map}
use Rattle.std.proofs.lemmas.Bool.{eqb-true}
use Rattle.std.proofs.lemmas.List.{append-nil, take_more}
use Rattle.std.proofs.lemmas.List.Elements.{filter_map-append}
use Rattle.mst_roles.proofs.forest_lemmas.Lists.{all_contained, some_is}
use Rattle.mst_roles.proofs.forest_lemmas.Looking.{first_found}

-- the things of a list and the numbers that they have: what is said of each is said of all
pub by_number : {A W : Type 0} (has : A → Option ℕ) (f : ℕ → Option W) (g : A → W) (ns : List ℕ) (xs : List A) → map Some ns ≡ map has xs
    → AllByRecursion (λ x. (n : ℕ) → has x ≡ Some n → f n ≡ Some (g x)) xs → filter_map f ns ≡ map g xs
by_number has f g [] [] e h = cc
by_number has f g [] (x ∷ xs) e h = cc
by_number has f g (n ∷ ns) [] e h = cc
by_number has f g (n ∷ ns) (x ∷ xs) e h =
    let first : has x ≡ Some n = cc in
    let others : map Some ns ≡ map has xs = cc in
    let rest : filter_map f ns ≡ map g xs = by_number has f g ns xs others h.1 in
    λ i. cons_option (h.0 n first i) (rest i)

-- what is looked up by number has the name that has the number
pub named_at : {A : Type 0} (number : A → ℕ) (name : A → List ℕ) (has : List ℕ → Option ℕ) (things : List A)
    → AllByRecursion (λ x. has (name x) ≡ Some (number x)) things
    → ((a b : List ℕ) (n : ℕ) → has a ≡ Some n → has b ≡ Some n → a ≡ b)
    → (x : A) → Contains things x → (n : ℕ) → has (name x) ≡ Some n → option_map name (find (λ y. n == number y) things) ≡ Some (name x)
named_at number name has things each differ x there n e =
    let own = all_contained (λ y. has (name y) ≡ Some (number y)) things x each there in
    let first = first_found (λ y. n == number y) things x there (eq-eqb n (number x) (some_is n (number x) (sym e ∙ own))) in
    let other = all_contained (λ y. has (name y) ≡ Some (number y)) things first.it each first.there in
    ap (option_map name) first.found ∙ ap Some (differ (name first.it) (name x) n (other ∙ ap Some (sym (eqb-true n (number first.it) first.passes))) e)

-- the names so far, and that of one more number, if it has one
module _ {A B : Type 0} (f : A → Option B) (xs : List A) (i : ℕ) (x : A) (below : i < length xs) (is : x ≡ get_or xs i x) where
  one_more : filter_map f (take (i + 1) xs) ≡ filter_map f (take i xs) ++ cons_option (f x) []
  one_more =
      ap (filter_map f) (take_more xs i x below) ∙ filter_map-append f (take i xs) (get_or xs i x ∷ []) ∙ ap (λ y. filter_map f (take i xs) ++ cons_option (f y) []) (sym is)

  pub one_named : (names new : List B) (y : B) → names ≡ filter_map f (take i xs) → f x ≡ Some y → new ≡ names ++ y ∷ [] → new ≡ filter_map f (take (i + 1) xs)
  one_named names new y so_far named more = more ∙ (λ k. so_far k ++ cons_option (sym named k) []) ∙ sym one_more

  pub one_unnamed : (names : List B) → names ≡ filter_map f (take i xs) → f x ≡ None → names ≡ filter_map f (take (i + 1) xs)
  one_unnamed names so_far unnamed = so_far ∙ sym (append-nil (filter_map f (take i xs))) ∙ (λ k. filter_map f (take i xs) ++ cons_option (sym unnamed k) []) ∙ sym one_more
