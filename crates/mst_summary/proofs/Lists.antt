-- Lists: what passes, how many, and texts of each.
use Rattle.std.proofs.Common.{◌≡◌, ℕ, ◌+◌, ◌<◌, ◌&&◌, ◌||◌, Bool, true, false, cond, List, [], ◌∷◌, ◌++◌, length, take, get_or, fold, map, refl, sym, ap, ◌∙◌, true≢false, arith}
use Rattle.std.specs.List.{AllByRecursion, filter, list_all, list_any, count_by, range_with_len}
use Rattle.std.proofs.lemmas.List.{length-map, take_more}
use Rattle.std.proofs.lemmas.List.Elements.{filter-append}
use Rattle.std.proofs.lemmas.List.Sums.{length-filter, fold-append}
use Rattle.mst_tables.proofs.Rising.{range_more}
use Rattle.mst_vlan.proofs.forest_lemmas.Lists.{filter_mapped}
use Rattle.mst_vlan.proofs.forest_lemmas.Looking.{filter_alike}
use Rattle.mst_vlan.specs.forest.AllTrees.{all_trees}
use Rattle.mst_vlan.proofs.forest_lemmas.AllTrees.{trees_are}
use Rattle.mst_graph.specs.Lists.{has_any}

-- one more tree of those that pass, and all of them
pub trees_more : (test : ℕ → Bool) (n : ℕ) → filter test (range_with_len 0 (n + 1)) ≡ filter test (range_with_len 0 n) ++ cond (test n) (n ∷ []) []
trees_more test n = let same : 0 + n ≡ n = omega arith in ap (filter test) (range_more 0 n ∙ ap (λ m. range_with_len 0 n ++ m ∷ []) same) ∙ filter-append test (range_with_len 0 n) (n ∷ [])

pub trees_all : (test : ℕ → Bool) (n : ℕ) → n ≡ 4095 → filter test (range_with_len 0 n) ≡ filter test all_trees
trees_all test n e = ap (filter test) (ap (range_with_len 0) e ∙ trees_are)

-- how many pass, of what is made of things and of things that are tested alike
pub count_mapped : {A B : Type 0} (test : B → Bool) (f : A → B) (xs : List A) → count_by test (map f xs) ≡ count_by (λ x. test (f x)) xs
count_mapped test f xs =
    sym (length-filter test (map f xs)) ∙ ap length (filter_mapped test f xs) ∙ length-map (filter (λ x. test (f x)) xs) f ∙ length-filter (λ x. test (f x)) xs

pub count_alike : {A : Type 0} (p q : A → Bool) (xs : List A) → AllByRecursion (λ x. p x ≡ q x) xs → count_by p xs ≡ count_by q xs
count_alike p q xs h = sym (length-filter p xs) ∙ ap length (filter_alike p q xs h) ∙ length-filter q xs

-- whether all do
pub all_mapped : {A B : Type 0} (test : B → Bool) (f : A → B) (xs : List A) → list_all test (map f xs) ≡ list_all (λ x. test (f x)) xs
all_mapped test f [] = refl
all_mapped test f (x ∷ xs) = ap (λ t. test (f x) && t) (all_mapped test f xs)

pub any_mapped : {A B : Type 0} (test : B → Bool) (f : A → B) (xs : List A) → list_any test (map f xs) ≡ list_any (λ x. test (f x)) xs
any_mapped test f [] = refl
any_mapped test f (x ∷ xs) = ap (λ t. test (f x) || t) (any_mapped test f xs)

pub any_alike : {A : Type 0} (f g : A → Bool) (xs : List A) → AllByRecursion (λ x. f x ≡ g x) xs → list_any f xs ≡ list_any g xs
any_alike f g [] h = refl
any_alike f g (x ∷ xs) h = let first = h.0 in let rest = any_alike f g xs h.1 in λ i. first i || rest i

-- one more thing of a fold
pub fold_more : {A B : Type 0} (f : B → A → B) (first : B) (xs : List A) (i : ℕ) (x : A) → i < length xs → x ≡ get_or xs i x → fold f first (take (i + 1) xs) ≡ f (fold f first (take i xs)) x
fold_more f first xs i x l is = ap (fold f first) (take_more xs i x l ∙ ap (λ y. take i xs ++ y ∷ []) (sym is)) ∙ fold-append f first (take i xs) (x ∷ [])

-- and of those that pass
pub passed_more : {A : Type 0} (test : A → Bool) (xs : List A) (i : ℕ) (x : A) → i < length xs → x ≡ get_or xs i x → filter test (take (i + 1) xs) ≡ filter test (take i xs) ++ cond (test x) (x ∷ []) []
passed_more test xs i x l is = ap (filter test) (take_more xs i x l ∙ ap (λ y. take i xs ++ y ∷ []) (sym is)) ∙ filter-append test (take i xs) (x ∷ [])

-- where there is some, whether one passes or there is no need to
pub any_or : {A : Type 0} (t : Bool) (test : A → Bool) (xs : List A) → has_any xs ≡ true → (t || list_any test xs) ≡ list_any (λ x. t || test x) xs
any_or t test [] e = absurd (true≢false (sym e))
any_or true test (x ∷ xs) e = refl
any_or false test (x ∷ xs) e = refl
