-- The names that stand in either of two lists.
use Rattle.std.proofs.Common.{◌≡◌, Bool, true, false, cond, ◌||◌, ◌&&◌, List, [], ◌∷◌, ◌++◌, map, Option, Some, None, refl, sym, ap, subst, ◌∙◌, true≢false, Less, Equal, Greater}
use Rattle.std.specs.Prelude.{T}
use Rattle.std.specs.List.{AllByRecursion, list_any, filter_map}
use Rattle.std.specs.Cmp.{IsTotalOrder}
use Rattle.std.specs.declared.cmp.Ordering.{Ordering}
use Rattle.std.specs.Ordering.{eq_by_cmp, is_eq, is_lt}
use Rattle.std.specs.FinMap as fin
use Rattle.std.specs.FinMap.{FinMap, IsAntisymmetric, find, is_sorted, entries, entries_sorted, get-entries, from_entries, get-from_entries}
use Rattle.std.specs.FinMap.Entries.{below_all, where_key, same_entries, is_sorted-where_key, find-where_key}
use Rattle.std.proofs.lemmas.List.Folds.{list_any-append}
use Rattle.mst_roles.specs.forest.Apart.{Apart}
use Rattle.mst_roles.proofs.forest_lemmas.Entries.{entries_apart}
use Rattle.mst_roles.proofs.forest_lemmas.Lists.{apart_mapped}
use Rattle.mst_changes.specs.Subjects.{names_of_either}
use Rattle.mst_roles.proofs.forest_lemmas.Pieces.{filter_map-map}
use Rattle.mst_changes.proofs.Lists.{kept_passing}

tied : (o : Ordering) → is_eq o ≡ true → o ≡ Equal
tied Less e = absurd (true≢false (sym e))
tied Equal e = refl
tied Greater e = absurd (true≢false (sym e))

both : (a b : Bool) → T a → T b → T (a && b)
both true b p q = q
both false b p q = p

in_left : (a b : Bool) → a ≡ true → (a || b) ≡ true
in_left a b e = ap (λ x. x || b) e

in_right : (a b : Bool) → b ≡ true → (a || b) ≡ true
in_right true b e = refl
in_right false b e = e

module _ {K : Type 0} {R : K → K → Ordering} (total : IsTotalOrder R) (same : IsAntisymmetric R) where
  abbrev marked : List K → List (K × K)
  marked ks = map (λ k. (k, k)) ks

  below_marked : (k : K) (ks : List K) → AllByRecursion (λ l. R k l ≡ Less) ks → T (below_all R k (marked ks))
  below_marked k [] h = tt
  below_marked k (l ∷ ks) h = both (is_lt (R k l)) (below_all R k (marked ks)) (subst (λ o. T (is_lt o)) (sym h.0) tt) (below_marked k ks h.1)

  sorted_marked : (ks : List K) → Apart (λ a b. R a b ≡ Less) ks → T (is_sorted R (marked ks))
  sorted_marked [] h = tt
  sorted_marked (k ∷ ks) h = both (below_all R k (marked ks)) (is_sorted R (marked ks)) (below_marked k ks h.0) (sorted_marked ks h.1)

  find_marked : (q : K) (ks : List K) → find R q (marked ks) ≡ cond (list_any (eq_by_cmp R q) ks) (Some q) None
  find_marked q [] = refl
  find_marked q (k ∷ ks) = go (eq_by_cmp R q k) refl (find_marked q ks)
    where
      go : (b : Bool) → eq_by_cmp R q k ≡ b → find R q (marked ks) ≡ cond (list_any (eq_by_cmp R q) ks) (Some q) None
          → cond b (Some k) (find R q (marked ks)) ≡ cond (b || list_any (eq_by_cmp R q) ks) (Some q) None
      go true e rest = ap Some (sym (same q k (tied (R q k) e)))
      go false e rest = rest

  module _ (all some : List K) (rise : Apart (λ a b. R a b ≡ Less) some) (within : (q : K) → list_any (eq_by_cmp R q) some ≡ true → list_any (eq_by_cmp R q) all ≡ true) where
    abbrev map_of_all : FinMap R K
    map_of_all = from_entries {R = R} (marked all)

    abbrev is_some_of : K → Bool
    is_some_of k = list_any (eq_by_cmp R k) some

    -- of all names in their order, those that are some of them are these in theirs
    names_among : where_key R is_some_of (entries map_of_all) ≡ marked some
    names_among =
        same_entries R total same (where_key R is_some_of (entries map_of_all)) (marked some) (is_sorted-where_key R is_some_of (entries map_of_all) (entries_sorted map_of_all)) (sorted_marked some rise) found
      where
        go : (q : K) (b : Bool) → list_any (eq_by_cmp R q) some ≡ b → cond b (cond (list_any (eq_by_cmp R q) all) (Some q) None) None ≡ cond b (Some q) None
        go q true e = ap (λ a. cond a (Some q) None) (within q e)
        go q false e = refl

        found : (q : K) → find R q (where_key R is_some_of (entries map_of_all)) ≡ find R q (marked some)
        found q =
            find-where_key R is_some_of q (λ x e. ap is_some_of (sym (same q x e))) (entries map_of_all)
            ∙ ap (λ o. cond (is_some_of q) o None) (sym (get-entries map_of_all q) ∙ get-from_entries total (marked all) q ∙ find_marked q all)
            ∙ go q (is_some_of q) refl ∙ sym (find_marked q some)

    -- what is kept of all names, if nothing is kept of the others
    kept_of_all : {A : Type 0} (g : K → Option A) → ((k : K) → list_any (eq_by_cmp R k) some ≡ false → g k ≡ None) → filter_map g (fin.keys map_of_all) ≡ filter_map g some
    kept_of_all g none =
        filter_map-map g (λ (e : K × K). e.0) (entries map_of_all)
        ∙ sym (kept_passing (λ (e : K × K). g e.0) (λ (e : K × K). is_some_of e.0) (λ e h. none e.0 h) (entries map_of_all))
        ∙ ap (filter_map (λ (e : K × K). g e.0)) names_among ∙ filter_map-map (λ (e : K × K). g e.0) (λ k. (k, k)) some

  module _ (xs ys : List K) where
    pub either_rise : Apart (λ a b. R a b ≡ Less) (names_of_either R xs ys)
    either_rise =
        let m = from_entries {R = R} (marked (xs ++ ys)) in
        apart_mapped (λ (e f : K × K). R e.0 f.0 ≡ Less) (λ a b. R a b ≡ Less) (λ (e : K × K). e.0) (λ e f l. l) (entries m) (entries_apart total m)

    pub kept_left : {A : Type 0} (g : K → Option A) → Apart (λ a b. R a b ≡ Less) xs → ((k : K) → list_any (eq_by_cmp R k) xs ≡ false → g k ≡ None) → filter_map g (names_of_either R xs ys) ≡ filter_map g xs
    kept_left g rise none =
        kept_of_all (xs ++ ys) xs rise (λ q e. list_any-append (eq_by_cmp R q) xs ys ∙ in_left (list_any (eq_by_cmp R q) xs) (list_any (eq_by_cmp R q) ys) e) g none

    pub kept_right : {A : Type 0} (g : K → Option A) → Apart (λ a b. R a b ≡ Less) ys → ((k : K) → list_any (eq_by_cmp R k) ys ≡ false → g k ≡ None) → filter_map g (names_of_either R xs ys) ≡ filter_map g ys
    kept_right g rise none =
        kept_of_all (xs ++ ys) ys rise (λ q e. list_any-append (eq_by_cmp R q) xs ys ∙ in_right (list_any (eq_by_cmp R q) xs) (list_any (eq_by_cmp R q) ys) e) g none
