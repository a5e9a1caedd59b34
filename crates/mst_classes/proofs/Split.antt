-- Numbers that tell VIDs apart.
use Rattle.std.proofs.Common.{◌≡◌, ℕ, zero, suc, ◌+◌, ◌<◌, ◌≤◌, ◌⊎◌, inl, inr, ◌++◌, Bool, true, List, [], ◌∷◌, length, take, get_or, sym, ap, subst, ◌∙◌, arith}
use Rattle.std.specs.List.{AllByRecursion}
use Rattle.std.proofs.lemmas.Bool.{cases_lt}
use Rattle.std.proofs.lemmas.List.{take_more, get_or_default, get_or_past}
use Rattle.std.proofs.lemmas.List.FromFn.{map-range_with_len_more, get_or-map-range_with_len, length-map-range_with_len}
use Rattle.mst_ids.specs.Vids.{has}
use Rattle.mst_graph.specs.Numbers.{AreNumbers}
use Rattle.mst_view.proofs.Lists.{all_pushed}
use Rattle.mst_tables.specs.Table.{tree_in}
use Rattle.mst_classes.specs.Alike.{TellApart, IsSplit, SplitBySets, keys_to}

-- one more key
keys_more : {K : Type 0} (key : ℕ → K) (numbers : List ℕ) (n : ℕ) → keys_to key numbers (n + 1) ≡ keys_to key numbers n ++ (get_or numbers n 0, key (n + 1)) ∷ []
keys_more key numbers n = let same : 0 + n ≡ n = omega arith in map-range_with_len_more (λ i. (get_or numbers i 0, key (i + 1))) 0 n n same

pub key_pushed : {K : Type 0} (key : ℕ → K) (numbers : List ℕ) (n m : ℕ) (k : K) (keys new : List (ℕ × K)) → new ≡ keys ++ (get_or numbers m 0, k) ∷ [] → keys ≡ keys_to key numbers n → m ≡ n → k ≡ key (n + 1) → new ≡ keys_to key numbers (n + 1)
key_pushed key numbers n m k keys new pushed before place is = pushed ∙ (λ i. before i ++ (get_or numbers (place i) 0, is i) ∷ []) ∙ sym (keys_more key numbers n)

-- the tree at a place of a table
pub tree_at : (table : List ℕ) (i t : ℕ) → i < length table → t ≡ get_or table i t → t ≡ tree_in table (i + 1)
tree_at table i t l is = let next : suc i ≡ i + 1 = omega arith in is ∙ get_or_default table i t 0 l ∙ ap (λ n. get_or (0 ∷ table) n 0) next

-- new numbers by the old ones and keys
module _ {K : Type 0} (same : ℕ × K → ℕ × K → Bool) (tells : (p q : ℕ × K) → same p q ≡ true → (p.0 ≡ q.0) × (p.1 ≡ q.1)) (key : ℕ → K) (numbers split firsts : List ℕ) (keys : List (ℕ × K)) (n : ℕ) (all : n ≡ 4094)
    (keys_are : keys ≡ keys_to key numbers n) (are : AreNumbers same keys split firsts) where
  long : length keys ≡ n
  long = ap length keys_are ∙ length-map-range_with_len (λ i. (get_or numbers i 0, key (i + 1))) 0 n

  key_at : (i : ℕ) (d : ℕ × K) → i < n → get_or keys i d ≡ (get_or numbers i 0, key (i + 1))
  key_at i d l = ap (λ ks. get_or ks i d) keys_are ∙ get_or-map-range_with_len (λ i. (get_or numbers i 0, key (i + 1))) 0 n i i d l (omega arith)

  pub is_split : IsSplit key numbers split
  is_split = record {
    as_long = are.as_long ∙ long ∙ all;
    finer = λ i j li lj e.
        let length_is : length keys ≡ n = long in
        let d : ℕ × K = (0, key 0) in
        let together = tells (get_or keys i d) (get_or keys j d) ((are.equal i j d (omega arith) (omega arith)).0 e) in
        let first : get_or keys i d ≡ (get_or numbers i 0, key (i + 1)) = key_at i d (omega arith) in
        let second : get_or keys j d ≡ (get_or numbers j 0, key (j + 1)) = key_at j d (omega arith) in
        (ap (λ (p : ℕ × K). p.0) (sym first) ∙ together.0 ∙ ap (λ (p : ℕ × K). p.0) second, ap (λ (p : ℕ × K). p.1) (sym first) ∙ together.1 ∙ ap (λ (p : ℕ × K). p.1) second);
  }

-- no table tells apart
pub none_told : (numbers : List ℕ) → length numbers ≡ 4094 → TellApart [] [] numbers
none_told numbers long = record { as_long = long; alike = λ i j li lj e. record { same_tree = tt; same_sets = tt } }

-- one more table
pub tables_more : (tables : List (List ℕ)) (k : ℕ) (table : List ℕ) → k < length tables → table ≡ get_or tables k table → (numbers split : List ℕ)
    → TellApart (take k tables) [] numbers → IsSplit (tree_in table) numbers split → TellApart (take (k + 1) tables) [] split
tables_more tables k table l is numbers split told new = record {
  as_long = new.as_long;
  alike = λ i j li lj e.
      let finer = new.finer i j li lj e in record {
        same_tree = subst (AllByRecursion (λ table. tree_in table (i + 1) ≡ tree_in table (j + 1))) (sym (take_more tables k table l))
            (all_pushed (λ table. tree_in table (i + 1) ≡ tree_in table (j + 1)) (take k tables) (get_or tables k table) ((told.alike i j li lj finer.0).same_tree) (subst (λ table. tree_in table (i + 1) ≡ tree_in table (j + 1)) is finer.1));
        same_sets = tt;
      };
}

-- one more set
pub sets_more : (sets : List (List Bool)) (k : ℕ) (set : List Bool) → k < length sets → set ≡ get_or sets k set → (first numbers split : List ℕ)
    → SplitBySets (take k sets) first numbers → IsSplit (has set) numbers split → SplitBySets (take (k + 1) sets) first split
sets_more sets k set l is first numbers split told new = record {
  as_long = new.as_long;
  finer = λ i j li lj e.
      let finer = new.finer i j li lj e in
      let before = told.finer i j li lj finer.0 in (
        before.0,
        subst (AllByRecursion (λ set. has set (i + 1) ≡ has set (j + 1))) (sym (take_more sets k set l))
            (all_pushed (λ set. has set (i + 1) ≡ has set (j + 1)) (take k sets) (get_or sets k set) before.1 (subst (λ set. has set (i + 1) ≡ has set (j + 1)) is finer.1)),
      );
}

-- tables and then sets
pub both_told : (tables : List (List ℕ)) (sets : List (List Bool)) (numbers split : List ℕ) → TellApart tables [] numbers → SplitBySets sets numbers split → TellApart tables sets split
both_told tables sets numbers split told new = record {
  as_long = new.as_long;
  alike = λ i j li lj e. let finer = new.finer i j li lj e in record { same_tree = (told.alike i j li lj finer.0).same_tree; same_sets = finer.1 };
}

-- numbers are less than there are keys
module _ {K : Type 0} (same : K → K → Bool) (keys : List K) (numbers firsts : List ℕ) (are : AreNumbers same keys numbers firsts) where
  -- a first place is no less than its number
  first_past : (n : ℕ) → n < length firsts → n ≤ get_or firsts n 0
  first_past zero l = omega arith
  first_past (suc n) l =
      let before : n ≤ get_or firsts n 0 = first_past n (omega arith) in
      let more : get_or firsts n 0 < get_or firsts (suc n) 0 = are.rising n (suc n) (omega arith) l in
      omega arith

  pub numbers_small : (k : ℕ) → 0 < k → length keys ≡ k → (i : ℕ) → get_or numbers i 0 < k
  numbers_small k some long i = by (cases_lt i (length keys))
    where
      by : (i < length keys) ⊎ (length keys ≤ i) → get_or numbers i 0 < k
      by (inl l) =
          let n : ℕ = get_or numbers i 0 in
          let below : n < length firsts = are.below i l in
          let past : n ≤ get_or firsts n 0 = first_past n below in
          let place : get_or firsts n 0 < length keys = (are.first n below).0 in
          omega arith
      by (inr past) = let none : get_or numbers i 0 ≡ 0 = get_or_past numbers i 0 (subst (λ m. m ≤ i) (sym are.as_long) past) in omega arith

pub keys_long : {K : Type 0} (key : ℕ → K) (numbers : List ℕ) (keys : List (ℕ × K)) (n : ℕ) → keys ≡ keys_to key numbers n → length keys ≡ n
keys_long key numbers keys n e = ap length e ∙ length-map-range_with_len (λ i. (get_or numbers i 0, key (i + 1))) 0 n
