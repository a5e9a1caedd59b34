-- Numbers of pairs tell both numbers of each.
use Rattle.std.proofs.Common.{◌≡◌, ℕ, suc, ◌+◌, ◌*◌, ◌/◌, ◌%◌, ◌<◌, ◌≤◌, ◌⊎◌, inl, inr, List, [], ◌∷◌, ◌++◌, length, get_or, refl, sym, ap, subst, ◌∙◌, arith}
use Rattle.std.proofs.lemmas.Bool.{cases_lt, cases_eq}
use Rattle.std.proofs.lemmas.List.{get_or_push, get_or_past, get_or_append_left, length_push}
use Rattle.std.proofs.lemmas.Nat.{mod-mul-add, div-mul-add}
use Rattle.mst_tables.specs.Table.{tree_in}
use Rattle.mst_classes.specs.Alike.{IsSplit}
use Rattle.mst_classes.specs.Pairs.{ArePairs}

-- ---- one more number
-- the last of a list, and those before it
at_push : (xs : List ℕ) (y i : ℕ) → (i < length xs) ⊎ (length xs ≤ i) → (i ≡ length xs) ⊎ (i ≡ length xs → ⊥) → (P : ℕ → Type 0) → (i < length xs → P (get_or xs i 0)) → (i ≡ length xs → P y) → P 0 → P (get_or (xs ++ y ∷ []) i 0)
at_push xs y i (inl l) e P before here past = subst P (sym (get_or_append_left xs (y ∷ []) 0 i l)) (before l)
at_push xs y i (inr p) (inl e) P before here past = subst P (sym (get_or_push xs y 0 i (sym e))) (here e)
at_push xs y i (inr p) (inr ne) P before here past =
    let long : length (xs ++ y ∷ []) ≡ length xs + 1 = length_push xs y in
    let beyond : length (xs ++ y ∷ []) ≤ i = omega (arith, ne) in
    subst P (sym (get_or_past (xs ++ y ∷ []) i 0 beyond)) past

pub pushed_within : (n : ℕ) → 0 < n → (xs new : List ℕ) (y : ℕ) → new ≡ xs ++ y ∷ [] → y < n → ((i : ℕ) → get_or xs i 0 < n) → (i : ℕ) → get_or new i 0 < n
pushed_within n some xs new y e l before i =
    subst (λ ys. get_or ys i 0 < n) (sym e) (at_push xs y i (cases_lt i (length xs)) (cases_eq i (length xs)) (λ z. z < n) (λ k. before i) (λ k. l) some)

-- ---- pairs
-- the pairs below a place
pub record PairsTo (numbers others : List ℕ) (width : ℕ) (keys : List ℕ) (n : ℕ) : Type 0 where
  pub as_long : length keys ≡ n
  pub each : (i : ℕ) → i < n → get_or keys i 0 ≡ get_or numbers i 0 * width + get_or others i 0
  pub within : (i : ℕ) → get_or keys i 0 < 16384

pub no_pairs : (numbers others : List ℕ) (width : ℕ) (keys : List ℕ) → keys ≡ [] → PairsTo numbers others width keys 0
no_pairs numbers others width keys e = subst (λ ks. PairsTo numbers others width ks 0) (sym e) (record { as_long = refl; each = λ i l. absurd (omega arith); within = λ i. omega arith })

pub pair_pushed : (numbers others : List ℕ) (width : ℕ) (keys new : List ℕ) (n key : ℕ) → PairsTo numbers others width keys n → new ≡ keys ++ key ∷ [] → key ≡ get_or numbers n 0 * width + get_or others n 0 → key < 16384 → PairsTo numbers others width new (n + 1)
pair_pushed numbers others width keys new n key p e is l = record {
  as_long = ap length e ∙ length_push keys key ∙ ap (λ k. k + 1) p.as_long;
  each = λ i below. by i below (cases_eq i n);
  within = pushed_within 16384 (omega arith) keys new key e l p.within;
}
  where
    by : (i : ℕ) → i < n + 1 → (i ≡ n) ⊎ (i ≡ n → ⊥) → get_or new i 0 ≡ get_or numbers i 0 * width + get_or others i 0
    by i below (inl here) =
        ap (λ ks. get_or ks i 0) e ∙ get_or_push keys key 0 i (p.as_long ∙ sym here) ∙ is ∙ ap (λ k. get_or numbers k 0 * width + get_or others k 0) (sym here)
    by i below (inr ne) =
        let less : i < length keys = let long : length keys ≡ n = p.as_long in omega (arith, ne) in
        ap (λ ks. get_or ks i 0) e ∙ get_or_append_left keys (key ∷ []) 0 i less ∙ p.each i (omega (arith, ne))

pub all_pairs : (numbers others : List ℕ) (width : ℕ) (keys : List ℕ) (n : ℕ) → n ≡ 4094 → PairsTo numbers others width keys n → ArePairs numbers others width keys
all_pairs numbers others width keys n all p = record { as_long = p.as_long ∙ all; each = λ i l. p.each i (subst (λ m. i < m) (sym all) l); within = p.within }

-- the pairs of two are one only if both of each are
module _ (a b c d width : ℕ) (l : b < width) (m : d < width) (same : a * width + b ≡ c * width + d) where
  pub first_same : a ≡ c
  first_same = sym (div-mul-add a width b l) ∙ ap (λ n. n / width) same ∙ div-mul-add c width d m

  pub second_same : b ≡ d
  second_same = sym (mod-mul-add a width b l) ∙ ap (λ n. n % width) same ∙ mod-mul-add c width d m

-- numbers of pairs of numbers and of trees split by the table
module _ (table numbers trees others : List ℕ) (width : ℕ) (keys split : List ℕ) (is : trees ≡ table)
    (apart : (i j : ℕ) → i < 4094 → j < 4094 → get_or others i 0 ≡ get_or others j 0 → get_or trees i 0 ≡ get_or trees j 0)
    (below : (i : ℕ) → get_or others i 0 < width) (pairs : ArePairs numbers others width keys) (long : length split ≡ 4094)
    (finer : (i j : ℕ) → i < 4094 → j < 4094 → get_or split i 0 ≡ get_or split j 0 → get_or keys i 0 ≡ get_or keys j 0) where
  tree_of : (i : ℕ) → tree_in table (i + 1) ≡ get_or table i 0
  tree_of i = let next : suc i ≡ i + 1 = omega arith in ap (λ n. get_or (0 ∷ table) n 0) (sym next)

  pub pairs_split : IsSplit (tree_in table) numbers split
  pairs_split = record {
    as_long = long;
    finer = λ i j li lj e.
        let same = sym (pairs.each i li) ∙ finer i j li lj e ∙ pairs.each j lj in
        let number = first_same (get_or numbers i 0) (get_or others i 0) (get_or numbers j 0) (get_or others j 0) width (below i) (below j) same in
        let other = second_same (get_or numbers i 0) (get_or others i 0) (get_or numbers j 0) (get_or others j 0) width (below i) (below j) same in
        let tree = apart i j li lj other in
        (number, tree_of i ∙ ap (λ ts. get_or ts i 0) (sym is) ∙ tree ∙ ap (λ ts. get_or ts j 0) is ∙ sym (tree_of j));
  }
