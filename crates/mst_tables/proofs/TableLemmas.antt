-- Which tree each VID is mapped to, entry by entry.
use Rattle.std.proofs.Common.{◌≡◌, ◌+◌, ◌-◌, ◌<◌, ◌≤◌, ◌⊎◌, inl, inr, ℕ, zero, suc, Bool, true, false, cond, ◌&&◌, ◌==◌, List, [], ◌∷◌, map, length, replicate, take, drop, get_or, set, nat_lt, IsTrue, refl, sym, ap, subst, ◌∙◌, arith, true≢false}
use Rattle.std.specs.List.{list_all, count_by, range_with_len}
use Rattle.std.proofs.lemmas.Bool.{cases_lt, cases_eq, lt-ltb, le-ltb, eqb-true}
use Rattle.std.proofs.lemmas.List.{get_or-set_other, length-set, same_lists, take_all}
use Rattle.std.proofs.lemmas.List.FromFn.{length-map-range_with_len, get_or-map-range_with_len}
use Rattle.std.proofs.lemmas.List.Sums.{sum_by-cons}
use Rattle.std.proofs.lemmas.Grind.{same_number_lists, get_or-set_at, get_or_tail}
use Rattle.mst_ids.specs.Vids.{has}
use Rattle.mst_tables.specs.Table.{no_table, tree_in, mapped, has_tree, tree_count}

-- ---- no VID mapped
zeros : (xs : List ℕ) → list_all (λ t. t == 0) xs ≡ true → xs ≡ replicate (length xs) 0
zeros [] all = refl
zeros (x ∷ xs) all =
    elim (x == 0) as (λ b. (x == 0) ≡ b → (b && list_all (λ t. t == 0) xs) ≡ true → x ∷ xs ≡ replicate (length (x ∷ xs)) 0) [
      | true ↦ λ e h i. eqb-true x 0 e i ∷ zeros xs h i
      | false ↦ λ e h. absurd (true≢false (sym h))
    ] refl all

all_zeros : (n : ℕ) → list_all (λ t. t == 0) (replicate n 0) ≡ true
all_zeros zero = refl
all_zeros (suc n) = all_zeros n

-- a table with every VID in the CIST is the one with none mapped
pub default_tells : (table : List ℕ) → length table ≡ 4094 → (IsTrue (list_all (λ t. t == 0) table) → table ≡ no_table) × (table ≡ no_table → IsTrue (list_all (λ t. t == 0) table))
unfolding no_table
default_tells table long = (λ all. zeros table all ∙ ap (λ n. replicate n 0) long, λ same. ap (list_all (λ t. t == 0)) same ∙ all_zeros 4094)

-- ---- VIDs mapped one by one
-- the VIDs of the set are mapped up to the index
pub record MapsBelow (old now : List ℕ) (vids : List Bool) (tree index : ℕ) : Type 0 where
  pub long : length now ≡ 4094
  pub entries : (n : ℕ) → n < 4094 → get_or now n 0 ≡ cond (nat_lt n index && has vids (n + 1)) tree (get_or old n 0)

pub none_mapped : (old : List ℕ) (vids : List Bool) (tree : ℕ) → length old ≡ 4094 → MapsBelow old old vids tree 0
none_mapped old vids tree long = record { long = long; entries = λ n small. ap (λ b. cond (b && has vids (n + 1)) tree (get_or old n 0)) (sym (le-ltb n 0 (omega arith))) }

after_first : {X : Type 0} (y : X) (xs : List X) (k : ℕ) (d : X) → get_or (y ∷ xs) (k + 1) d ≡ get_or xs k d
after_first y xs k d = get_or_tail y xs (k + 1) d (omega arith) ∙ ap (λ n. get_or xs n d) (one_less k)
  where
    one_less : (k : ℕ) → k + 1 - 1 ≡ k
    one_less k = omega arith

both : (a b : Bool) → a ≡ true → b ≡ true → (a && b) ≡ true
both a b e f = ap (λ x. x && b) e ∙ f

neither : (a b : Bool) → b ≡ false → (a && b) ≡ false
neither true b e = e
neither false b e = refl

later : (n index : ℕ) → (n ≡ index → ⊥) → nat_lt n index ≡ nat_lt n (index + 1)
later n index other = by (cases_lt n index)
  where
    by : (n < index) ⊎ (index ≤ n) → nat_lt n index ≡ nat_lt n (index + 1)
    by (inl below) = lt-ltb n index below ∙ sym (lt-ltb n (index + 1) (omega arith))
    by (inr past) = le-ltb n index past ∙ sym (le-ltb n (index + 1) (omega (arith, other)))

module _ (old now : List ℕ) (vids : List Bool) (tree index : ℕ) (fits : index < 4094) (maps : MapsBelow old now vids tree index) where
  pub one_mapped : has vids (index + 1) ≡ true → MapsBelow old (set now index tree) vids tree (index + 1)
  one_mapped member = record {
    long = length-set now index tree ∙ maps.long;
    entries = λ n small. by n small (cases_eq n index);
  }
    where
      by : (n : ℕ) → n < 4094 → (n ≡ index) ⊎ (n ≡ index → ⊥) → get_or (set now index tree) n 0 ≡ cond (nat_lt n (index + 1) && has vids (n + 1)) tree (get_or old n 0)
      by n small (inl here) =
          get_or-set_at now index n tree 0 here (subst (λ len. index < len) (sym maps.long) fits)
          ∙ ap (λ b. cond b tree (get_or old n 0)) (sym (both (nat_lt n (index + 1)) (has vids (n + 1)) (lt-ltb n (index + 1) (omega (arith, here))) (ap (λ k. has vids (k + 1)) here ∙ member)))
      by n small (inr other) =
          get_or-set_other now index n tree 0 other ∙ maps.entries n small
          ∙ ap (λ b. cond (b && has vids (n + 1)) tree (get_or old n 0)) (later n index other)

  pub one_passed : has vids (index + 1) ≡ false → MapsBelow old now vids tree (index + 1)
  one_passed none = record { long = maps.long; entries = λ n small. by n small (cases_eq n index) }
    where
      by : (n : ℕ) → n < 4094 → (n ≡ index) ⊎ (n ≡ index → ⊥) → get_or now n 0 ≡ cond (nat_lt n (index + 1) && has vids (n + 1)) tree (get_or old n 0)
      by n small (inl here) =
          let out : has vids (n + 1) ≡ false = ap (λ k. has vids (k + 1)) here ∙ none in
          maps.entries n small ∙ ap (λ b. cond b tree (get_or old n 0)) (neither (nat_lt n index) (has vids (n + 1)) out ∙ sym (neither (nat_lt n (index + 1)) (has vids (n + 1)) out))
      by n small (inr other) =
          maps.entries n small ∙ ap (λ b. cond (b && has vids (n + 1)) tree (get_or old n 0)) (later n index other)

-- none of the set is among those that are passed
pub passed : (old now : List ℕ) (vids : List Bool) (tree i j : ℕ) → i ≤ j → ((n : ℕ) → i ≤ n → n < j → n < 4094 → has vids (n + 1) ≡ false) → MapsBelow old now vids tree i → MapsBelow old now vids tree j
passed old now vids tree i j order none maps = record { long = maps.long; entries = λ n small. by n small (cases_lt n i) (cases_lt n j) }
  where
    by : (n : ℕ) → n < 4094 → (n < i) ⊎ (i ≤ n) → (n < j) ⊎ (j ≤ n) → get_or now n 0 ≡ cond (nat_lt n j && has vids (n + 1)) tree (get_or old n 0)
    by n small (inl low) other = maps.entries n small ∙ ap (λ b. cond (b && has vids (n + 1)) tree (get_or old n 0)) (lt-ltb n i low ∙ sym (lt-ltb n j (omega arith)))
    by n small (inr high) (inl low) =
        let out = none n high low small in
        maps.entries n small ∙ ap (λ b. cond b tree (get_or old n 0)) (neither (nat_lt n i) (has vids (n + 1)) out ∙ sym (neither (nat_lt n j) (has vids (n + 1)) out))
    by n small (inr high) (inr past) = maps.entries n small ∙ ap (λ b. cond (b && has vids (n + 1)) tree (get_or old n 0)) (le-ltb n i high ∙ sym (le-ltb n j past))

-- VIDs that are mapped below a place, and then those below another
pub composed : (old mid now : List ℕ) (vids : List Bool) (tree i index : ℕ) → i ≤ index → MapsBelow old mid vids tree i → MapsBelow mid now vids tree index → MapsBelow old now vids tree index
composed old mid now vids tree i index order before maps = record {
  long = maps.long;
  entries = λ n small. maps.entries n small ∙ ap (cond (nat_lt n index && has vids (n + 1)) tree) (before.entries n small) ∙ twice n (has vids (n + 1)) (cases_lt n i);
}
  where
    same : (b : Bool) (x : ℕ) → cond b tree (cond b tree x) ≡ cond b tree x
    same true x = refl
    same false x = refl

    twice : (n : ℕ) (b : Bool) → (n < i) ⊎ (i ≤ n) → cond (nat_lt n index && b) tree (cond (nat_lt n i && b) tree (get_or old n 0)) ≡ cond (nat_lt n index && b) tree (get_or old n 0)
    twice n b (inl low) = rw (lt-ltb n i low, lt-ltb n index (omega arith)) (same b (get_or old n 0))
    twice n b (inr high) = rw (le-ltb n i high) refl

pub all_mapped : (old now : List ℕ) (vids : List Bool) (tree index : ℕ) → 4094 ≤ index → MapsBelow old now vids tree index → now ≡ mapped vids tree old
unfolding mapped
all_mapped old now vids tree index end maps =
    let test : ℕ → ℕ = λ vid. cond (has vids vid) tree (tree_in old vid) in
    same_number_lists now (map test (range_with_len 1 4094)) (maps.long ∙ sym (length-map-range_with_len test 1 4094)) (λ k below.
    let small : k < 4094 = subst (λ len. k < len) maps.long below in
    maps.entries k small ∙ ap (λ b. cond (b && has vids (k + 1)) tree (get_or old k 0)) (lt-ltb k index (omega (arith, end)))
    ∙ ap (cond (has vids (k + 1)) tree) (sym (after_first 0 old k 0))
    ∙ sym (get_or-map-range_with_len test 1 4094 k (k + 1) 0 small (omega arith)))

-- ---- trees counted
any_default : (flags : List Bool) (k : ℕ) (d e : Bool) → k < length flags → get_or flags k d ≡ get_or flags k e
any_default [] k d e lt = absurd (omega arith)
any_default (flag ∷ flags) zero d e lt = refl
any_default (flag ∷ flags) (suc k) d e lt = any_default flags k d e (omega arith)

count_map : {X : Type 0} (p : X → Bool) (xs : List X) → count_by (λ flag. flag) (map p xs) ≡ count_by p xs
count_map p [] = refl
count_map p (x ∷ xs) =
    sum_by-cons (λ flag. cond flag 1 0) (p x) (map p xs) ∙ ap (λ n. cond (p x) 1 0 + n) (count_map p xs)
    ∙ sym (sum_by-cons (λ y. cond (p y) 1 0) x xs)

-- the trees that have flags are counted by them
pub flags_counted : (table : List ℕ) (seen : List Bool) → length seen ≡ 4095 → ((tree : ℕ) → tree < 4095 → get_or seen tree false ≡ has_tree table tree)
    → count_by (λ flag. flag) (take 4094 (drop 1 seen)) ≡ tree_count table
unfolding tree_count
flags_counted table [] long flags = absurd (omega (arith, long))
flags_counted table (flag ∷ rest) long flags =
    let len : length rest ≡ 4094 = omega (arith, long) in
    ap (count_by (λ flag. flag)) (take_all 4094 rest (omega (arith, len)) ∙ same_lists rest (map (has_tree table) (range_with_len 1 4094)) (len ∙ sym (length-map-range_with_len (has_tree table) 1 4094)) (λ k d below.
    let small : k < 4094 = subst (λ n. k < n) len below in
    any_default rest k d false below ∙ sym (after_first flag rest k false) ∙ flags (k + 1) (omega (arith, small))
    ∙ sym (get_or-map-range_with_len (has_tree table) 1 4094 k (k + 1) d small (omega arith))))
    ∙ count_map (has_tree table) (range_with_len 1 4094)
