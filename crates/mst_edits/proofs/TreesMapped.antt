-- The trees of VIDs in tables of which some VIDs are mapped.
use Rattle.std.proofs.Common.{◌≡◌, ℕ, zero, suc, ◌+◌, ◌<◌, ◌≤◌, ◌⊎◌, inl, inr, Bool, true, false, cond, ◌||◌, List, [], ◌∷◌, length, get_or, Option, Some, None, refl, sym, ◌∙◌, arith, true≢false}
use Rattle.std.specs.Prelude.{◌==◌, if◌then◌else◌}
use Rattle.std.specs.List.{list_any, range_with_len, count_by, AllByRecursion}
use Rattle.std.specs.Option.{unwrap_or}
use Rattle.std.specs.FinMap as fin
use Rattle.std.proofs.lemmas.Bool.{cases_lt, or_right, or_left, eq-eqb, eqb-true}
use Rattle.std.proofs.lemmas.List.{get_or_past}
use Rattle.std.proofs.lemmas.List.FromFn.{get_or-map-range_with_len}
use Rattle.std.proofs.lemmas.List.Sums.{sum_by-cons}
use Rattle.mst_ids.specs.Vids.{has}
use Rattle.mst_net.specs.tables.Table.{no_table, tree_in, mapped, has_tree, mstis_in, tree_count}
use Rattle.mst_net.specs.tables.Tables.{Net, IsNetwork}
use Rattle.mst_net.specs.tables.After.{table_of}
use Rattle.mst_net.proofs.tables_lemmas.TableFits.{length-mapped, tree_in-no_table}
use Rattle.mst_edits.proofs.Lists.{all_filter}

-- ---- the tree of a VID
pub tree_in-mapped : (vids : List Bool) (tree : ℕ) (table : List ℕ) (v : ℕ) → 1 ≤ v → v ≤ 4094 → tree_in (mapped vids tree table) v ≡ (if has vids v then tree else tree_in table v)
unfolding mapped
tree_in-mapped vids tree table zero low high = absurd (omega arith)
tree_in-mapped vids tree table (suc k) low high = get_or-map-range_with_len (λ vid. if has vids vid then tree else tree_in table vid) 1 4094 k (suc k) 0 (omega arith) (omega arith)

-- and of a number that is none
pub tree_of_none : (table : List ℕ) (v : ℕ) → length table ≡ 4094 → 4094 < v → tree_in table v ≡ 0
tree_of_none table v long h = get_or_past (0 ∷ table) v 0 (omega (arith, long))

-- a table each of whose trees is the other's, or 0
abbrev pub IsUnder : List ℕ → List ℕ → Type 0
IsUnder part whole = (v : ℕ) → (tree_in part v ≡ 0) ⊎ (tree_in part v ≡ tree_in whole v)

pub under-no_table : (whole : List ℕ) → IsUnder no_table whole
under-no_table whole v = inl (tree_in-no_table v)

pub under-mapped : (vids : List Bool) (tree : ℕ) (part whole : List ℕ) → ((v : ℕ) → v < 4096 → has vids v ≡ true → tree_in whole v ≡ tree) → IsUnder part whole → IsUnder (mapped vids tree part) whole
under-mapped vids tree part whole as_whole under zero = inl refl
under-mapped vids tree part whole as_whole under (suc k) = by (cases_lt k 4094)
  where
    at : k < 4094 → (t : Bool) → has vids (suc k) ≡ t → tree_in (mapped vids tree part) (suc k) ≡ (if t then tree else tree_in part (suc k)) → (tree_in (mapped vids tree part) (suc k) ≡ 0) ⊎ (tree_in (mapped vids tree part) (suc k) ≡ tree_in whole (suc k))
    at low true e is = inr (is ∙ sym (as_whole (suc k) (omega (arith, low)) e))
    at low false e is = elim (under (suc k)) [
      | inl p ↦ inl (is ∙ p)
      | inr p ↦ inr (is ∙ p)
    ]

    by : (k < 4094) ⊎ (4094 ≤ k) → (tree_in (mapped vids tree part) (suc k) ≡ 0) ⊎ (tree_in (mapped vids tree part) (suc k) ≡ tree_in whole (suc k))
    by (inl low) = at low (has vids (suc k)) refl (tree_in-mapped vids tree part (suc k) (omega arith) (omega arith))
    by (inr high) = inl (tree_of_none (mapped vids tree part) (suc k) (length-mapped vids tree part) (omega arith))

-- ---- how many trees there are
place_of : (xs : List ℕ) (k : ℕ) → list_any (λ t. t == k) xs ≡ true → (i : ℕ) × (get_or xs i 0 ≡ k)
place_of [] k h = absurd (true≢false (sym h))
place_of (x ∷ xs) k h = by (x == k) refl h (λ later. place_of xs k later)
  where
    by : (t : Bool) → (x == k) ≡ t → (t || list_any (λ t. t == k) xs) ≡ true → (list_any (λ t. t == k) xs ≡ true → (i : ℕ) × (get_or xs i 0 ≡ k)) → (i : ℕ) × (get_or (x ∷ xs) i 0 ≡ k)
    by true e h later = (0, eqb-true x k e)
    by false e h later = let found = later h in (suc found.0, found.1)

pub has_place : (xs : List ℕ) (i k : ℕ) → get_or xs i 0 ≡ k → 1 ≤ k → list_any (λ t. t == k) xs ≡ true
has_place [] i k is some = absurd (omega (arith, is))
has_place (x ∷ xs) zero k is some = or_left (x == k) _ (eq-eqb x k is)
has_place (x ∷ xs) (suc i) k is some = or_right (x == k) _ (has_place xs i k is some)

under_has : (part whole : List ℕ) (k : ℕ) → 1 ≤ k → IsUnder part whole → has_tree part k ≡ true → has_tree whole k ≡ true
under_has part whole k some under h =
    let place = place_of part k h in
    elim (under (suc place.0)) [
      | inl p ↦ absurd (omega (arith, place.1, p))
      | inr p ↦ has_place whole place.0 k (sym p ∙ place.1) some
    ]

count_le : (p q : ℕ → Bool) (a n : ℕ) → 1 ≤ a → ((k : ℕ) → 1 ≤ k → p k ≡ true → q k ≡ true) → count_by p (range_with_len a n) ≤ count_by q (range_with_len a n)
count_le p q a zero some h = omega arith
count_le p q a (suc n) some h =
    let rest = count_le p q (a + 1) n (omega arith) h in
    let first : cond (p a) 1 0 ≤ cond (q a) 1 0 = by (p a) (q a) refl refl in
    omega (arith, rest, first, sum_by-cons (λ y. cond (p y) 1 0) a (range_with_len (a + 1) n), sum_by-cons (λ y. cond (q y) 1 0) a (range_with_len (a + 1) n))
  where
    by : (s t : Bool) → p a ≡ s → q a ≡ t → cond s 1 0 ≤ cond t 1 0
    by true true e f = omega arith
    by true false e f = absurd (true≢false (sym (h a some e) ∙ f))
    by false t e f = omega arith

pub under_count : (part whole : List ℕ) → IsUnder part whole → tree_count part ≤ tree_count whole
unfolding tree_count
under_count part whole under = count_le (has_tree part) (has_tree whole) 1 4094 (omega arith) (λ k some. under_has part whole k some under)

count_none : (p : ℕ → Bool) (a n : ℕ) → 1 ≤ a → ((k : ℕ) → 1 ≤ k → p k ≡ true → ⊥) → count_by p (range_with_len a n) ≡ 0
count_none p a zero some h = refl
count_none p a (suc n) some h =
    let rest = count_none p (a + 1) n (omega arith) h in
    let first : ◌≡◌ {A = ℕ} (cond (p a) 1 0) 0 = by (p a) refl in
    omega (arith, rest, first, sum_by-cons (λ y. cond (p y) 1 0) a (range_with_len (a + 1) n))
  where
    by : (s : Bool) → p a ≡ s → ◌≡◌ {A = ℕ} (cond s 1 0) 0
    by true e = absurd (h a some e)
    by false e = refl

none_in_no_table : (k : ℕ) → 1 ≤ k → has_tree no_table k ≡ true → ⊥
none_in_no_table k some h = let place = place_of no_table k h in omega (arith, some, place.1, tree_in-no_table (suc place.0))

none_counted : tree_count no_table ≡ 0
unfolding tree_count
none_counted = count_none (has_tree no_table) 1 4094 (omega arith) none_in_no_table

few : (n : ℕ) → n ≡ 0 → n ≤ 64
few n h = omega arith

no_table_count : tree_count no_table ≤ 64
no_table_count = few (tree_count no_table) none_counted

-- no bridge of a network has more than 64
pub few_trees : (net : Net) → IsNetwork net → (bridge : List ℕ) → tree_count (table_of net bridge) ≤ 64
few_trees net is bridge = by (fin.get net.tables bridge) refl
  where
    by : (o : Option (List ℕ)) → fin.get net.tables bridge ≡ o → tree_count (unwrap_or o no_table) ≤ 64
    by None e = no_table_count
    by (Some t) e = (is.tables bridge t e).1.2

-- ---- the trees of a table
range_from : (a n : ℕ) → 1 ≤ a → a + n ≤ 4095 → AllByRecursion (λ tree. (1 ≤ tree) × (tree ≤ 4094)) (range_with_len a n)
range_from a zero some most = tt
range_from a (suc n) some most = ((some, omega arith), range_from (a + 1) n (omega arith) (omega arith))

pub mstis_fit : (whole : List ℕ) → AllByRecursion (λ tree. ((1 ≤ tree) × (tree ≤ 4094)) × (has_tree whole tree ≡ true)) (mstis_in whole)
unfolding mstis_in
mstis_fit whole = all_filter (has_tree whole) (range_with_len 1 4094) (λ tree. (1 ≤ tree) × (tree ≤ 4094)) (range_from 1 4094 (omega arith) (omega arith))
