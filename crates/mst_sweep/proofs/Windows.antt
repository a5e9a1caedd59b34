-- Pieces of lists that follow one another, and how many pairs there are.
use Rattle.std.proofs.Common.{◌≡◌, ℕ, ◌+◌, ◌-◌, ◌*◌, ◌≤◌, zero, suc, List, [], ◌∷◌, ◌++◌, length, map, take, drop, min, refl, sym, ap, ◌∙◌, arith, length-append, append-nil, inl, inr}
use Rattle.std.proofs.lemmas.List.{take_all, drop_all, take-append-le, drop-append-le, length-drop, length-map}
use Rattle.std.proofs.Math.Seq.{take-append-add, drop-append-add}
use Rattle.std.proofs.lemmas.Bool.{cases_lt}
use Rattle.mst_sweep.specs.declared.failure.Failure.{Failure}
use Rattle.mst_sweep.specs.Pairs.{with_each, pairs_of}

-- what stands in a list from one place to another
abbrev pub piece : {A : Type 0} → ℕ → ℕ → List A → List A
piece b e xs = take (e - b) (drop b xs)

take_joined : {A : Type 0} (n : ℕ) (xs ys : List A) → take n (xs ++ ys) ≡ take n xs ++ take (n - length xs) ys
take_joined n xs ys = elim (cases_lt n (length xs)) [
  | inl h ↦
      let none : n - length xs ≡ 0 = omega (arith, h) in
      take-append-le n xs ys (omega (arith, h)) ∙ sym (append-nil (take n xs)) ∙ ap (λ k. take n xs ++ take k ys) (sym none)
  | inr h ↦
      let more : length xs + (n - length xs) ≡ n = omega (arith, h) in
      ap (λ k. take k (xs ++ ys)) (sym more) ∙ take-append-add xs ys (n - length xs) ∙ ap (λ l. l ++ take (n - length xs) ys) (sym (take_all n xs h))
]

drop_joined : {A : Type 0} (n : ℕ) (xs ys : List A) → drop n (xs ++ ys) ≡ drop n xs ++ drop (n - length xs) ys
drop_joined n xs ys = elim (cases_lt n (length xs)) [
  | inl h ↦
      let none : n - length xs ≡ 0 = omega (arith, h) in
      drop-append-le n xs ys (omega (arith, h)) ∙ ap (λ k. drop n xs ++ drop k ys) (sym none)
  | inr h ↦
      let more : length xs + (n - length xs) ≡ n = omega (arith, h) in
      ap (λ k. drop k (xs ++ ys)) (sym more) ∙ drop-append-add xs ys (n - length xs) ∙ ap (λ l. l ++ drop (n - length xs) ys) (sym (drop_all n xs h))
]

pub take_none : {A : Type 0} (n : ℕ) → take {A = A} n [] ≡ []
take_none zero = refl
take_none (suc n) = refl

-- nothing stands behind the end
piece_within : {A : Type 0} (b e : ℕ) (xs : List A) → b ≤ e → piece b e xs ≡ piece (min b (length xs)) (min e (length xs)) xs
piece_within b e xs h = elim (cases_lt b (length xs)) [
  | inl k ↦ elim (cases_lt e (length xs)) [
    | inl m ↦
        let begin : min b (length xs) ≡ b = omega (arith, k) in
        let end : min e (length xs) ≡ e = omega (arith, m) in
        λ i. piece (sym begin i) (sym end i) xs
    | inr m ↦
        let begin : min b (length xs) ≡ b = omega (arith, k) in
        let end : min e (length xs) ≡ length xs = omega (arith, m) in
        let long : length (drop b xs) ≡ length xs - b = length-drop b xs in
        take_all (e - b) (drop b xs) (omega (arith, long, m)) ∙ sym (take_all (length xs - b) (drop b xs) (omega (arith, long))) ∙ (λ i. piece (sym begin i) (sym end i) xs)
  ]
  | inr k ↦
      let begin : min b (length xs) ≡ length xs = omega (arith, k) in
      let end : min e (length xs) ≡ length xs = omega (arith, k, h) in
      ap (take (e - b)) (drop_all b xs k) ∙ take_none (e - b) ∙ sym (take_none (length xs - length xs)) ∙ ap (take (length xs - length xs)) (sym (drop_all (length xs) xs (omega arith))) ∙ (λ i. piece (sym begin i) (sym end i) xs)
]

pub piece_joined : {A : Type 0} (b e : ℕ) (xs ys : List A) → b ≤ e → piece b e (xs ++ ys) ≡ piece (min b (length xs)) (min e (length xs)) xs ++ piece (b - min b (length xs)) (e - min e (length xs)) ys
piece_joined b e xs ys h =
    let long : length (drop b xs) ≡ length xs - b = length-drop b xs in
    let behind : (e - b) - length (drop b xs) ≡ (e - min e (length xs)) - (b - min b (length xs)) = omega (arith, long, h) in
    let begin : b - length xs ≡ b - min b (length xs) = omega arith in
    ap (take (e - b)) (drop_joined b xs ys) ∙ take_joined (e - b) (drop b xs) (drop (b - length xs) ys)
    ∙ (λ i. piece_within b e xs h i ++ take (behind i) (drop (begin i) ys))

module _ {A B : Type 0} (f : A → B) where
  drop_mapped : (n : ℕ) (xs : List A) → drop n (map f xs) ≡ map f (drop n xs)
  drop_mapped zero xs = refl
  drop_mapped (suc n) [] = refl
  drop_mapped (suc n) (x ∷ xs) = drop_mapped n xs

  take_mapped : (n : ℕ) (xs : List A) → take n (map f xs) ≡ map f (take n xs)
  take_mapped zero xs = refl
  take_mapped (suc n) [] = refl
  take_mapped (suc n) (x ∷ xs) = ap (λ l. f x ∷ l) (take_mapped n xs)

  pub piece_mapped : (b e : ℕ) (xs : List A) → piece b e (map f xs) ≡ map f (piece b e xs)
  piece_mapped b e xs = ap (take (e - b)) (drop_mapped b xs) ∙ take_mapped (e - b) (drop b xs)

-- ---- pairs
-- how many there are: twice as many are each of so many with each other
pub twice : (fs : List Failure) → 2 * length (pairs_of fs) ≡ length fs * (length fs - 1)
twice [] = refl
twice (f ∷ []) = refl
twice (f ∷ g ∷ fs) =
    let here : length (pairs_of (f ∷ g ∷ fs)) ≡ length (g ∷ fs) + length (pairs_of (g ∷ fs)) =
    length-append (with_each f (g ∷ fs)) (pairs_of (g ∷ fs)) ∙ ap (λ n. n + length (pairs_of (g ∷ fs))) (length-map (g ∷ fs) (λ second. record { first = f; second = second })) in
    let rest = twice (g ∷ fs) in
    let n = length fs in
    let less : length (g ∷ fs) - 1 ≡ n = omega arith in
    let lessened : length (f ∷ g ∷ fs) - 1 ≡ n + 1 = omega arith in
    let long : length (g ∷ fs) ≡ n + 1 = omega arith in
    let longer : length (f ∷ g ∷ fs) ≡ n + 2 = omega arith in
    let was : 2 * length (pairs_of (g ∷ fs)) ≡ (n + 1) * n = rest ∙ (λ i. long i * less i) in
    let sides : 2 * length (pairs_of (f ∷ g ∷ fs)) ≡ (n + 2) * (n + 1) = omega (arith, here, was) in
    sides ∙ (λ i. sym longer i * sym lessened i)
