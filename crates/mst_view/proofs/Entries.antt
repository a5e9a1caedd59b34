-- The entries of a finite map.
use Rattle.std.proofs.Common.{◌≡◌, Bool, true, false, cond, ◌&&◌, T, List, [], ◌∷◌, Some, refl, ap, ◌∙◌, Less, Equal, Greater}
use Rattle.std.specs.declared.cmp.Ordering.{Ordering}
use Rattle.std.specs.List.{AllByRecursion}
use Rattle.std.specs.Ordering.{is_lt, is_eq, ordering_reverse}
use Rattle.std.specs.Cmp.{IsTotalOrder, tied_itself}
use Rattle.std.specs.FinMap as fin
use Rattle.std.specs.FinMap.{FinMap, find, is_sorted, entries_sorted, get-entries}
use Rattle.std.specs.FinMap.Entries.{below_all}
use Rattle.mst_view.proofs.Lists.{Apart, all_weaker, all_both}

first : (a b : Bool) → T (a && b) → T a
first true b p = tt
first false b p = p

second : (a b : Bool) → T (a && b) → T b
second true b p = p
second false b p = absurd p

less : (o : Ordering) → T (is_lt o) → o ≡ Less
less Less p = refl
less Equal p = absurd p
less Greater p = absurd p

module _ {K X : Type 0} {R : K → K → Ordering} (o : IsTotalOrder R) where
  below_each : (k : K) (es : List (K × X)) → T (below_all R k es) → AllByRecursion (λ e. R k e.0 ≡ Less) es
  below_each k [] h = tt
  below_each k (e ∷ es) h = (less _ (first _ _ h), below_each k es (second _ _ h))

  sorted_apart : (es : List (K × X)) → T (is_sorted R es) → Apart (λ e f. R e.0 f.0 ≡ Less) es
  sorted_apart [] h = tt
  sorted_apart (e ∷ es) h = (below_each e.0 es (first _ _ h), sorted_apart es (second _ _ h))

  -- the keys rise
  pub entries_apart : (m : FinMap R X) → Apart (λ e f. R e.0 f.0 ≡ Less) (fin.entries m)
  entries_apart m = sorted_apart (fin.entries m) (entries_sorted m)

  find_own : (e : K × X) (es : List (K × X)) → find R e.0 (e ∷ es) ≡ Some e.1
  find_own e es = ap (λ r. cond (is_eq r) (Some e.1) (find R e.0 es)) (tied_itself o e.0)

  find_later : (e f : K × X) (es : List (K × X)) → R e.0 f.0 ≡ Less → find R f.0 es ≡ Some f.1 → find R f.0 (e ∷ es) ≡ Some f.1
  find_later e f es l h = ap (λ r. cond (is_eq r) (Some e.1) (find R f.0 es)) (o.antisymm f.0 e.0 ∙ ap ordering_reverse l) ∙ h

  sorted_found : (es : List (K × X)) → T (is_sorted R es) → AllByRecursion (λ e. find R e.0 es ≡ Some e.1) es
  sorted_found [] h = tt
  sorted_found (e ∷ es) h =
      (find_own e es, all_both _ _ _ (λ f l k. find_later e f es l k) es (below_each e.0 es (first _ _ h)) (sorted_found es (second _ _ h)))

  -- what an entry says is what a look-up finds
  pub entries_found : (m : FinMap R X) → AllByRecursion (λ e. fin.get m e.0 ≡ Some e.1) (fin.entries m)
  entries_found m = all_weaker _ _ (λ e h. get-entries m e.0 ∙ h) (fin.entries m) (sorted_found (fin.entries m) (entries_sorted m))
