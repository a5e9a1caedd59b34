-- The texts of numbered things.
use Rattle.std.proofs.Common.{◌≡◌, ℕ, suc, ◌+◌, ◌<◌, Bool, true, false, cond, List, [], ◌∷◌, ◌++◌, length, take, get_or, sym, ap, ◌∙◌, arith, append_assoc, append-nil}
use Rattle.std.specs.List.{filter}
use Rattle.std.proofs.lemmas.List.{length-append}
use Rattle.mst_summary.proofs.Lists.{passed_more}
use Rattle.mst_picture.specs.VlanPicture.{numbered}

-- of one more
numbered_more : {A : Type 0} (text : ℕ → A → List ℕ) (number : ℕ) (xs : List A) (x : A) → numbered text number (xs ++ x ∷ []) ≡ numbered text number xs ++ text (number + length xs) x
numbered_more text number [] x = let same : number ≡ number + 0 = omega arith in append-nil (text number x) ∙ ap (λ n. text n x) same
numbered_more text number (y ∷ ys) x =
    let same : suc number + length ys ≡ number + suc (length ys) = omega arith in
    let own = text number y in
    let rest = numbered text (suc number) ys in
    ap (λ t. own ++ t) (numbered_more text (suc number) ys x) ∙ sym (append_assoc own rest (text (suc number + length ys) x)) ∙ ap (λ n. (own ++ rest) ++ text n x) same

-- those of these things that pass have been counted, and their texts have been appended
pub record AreDrawn {A : Type 0} (text : ℕ → A → List ℕ) (test : A → Bool) (things : List A) (first out : List ℕ) (count : ℕ) : Type 0 where
  pub counted : count ≡ length (filter test things)
  pub drawn : out ≡ first ++ numbered text 1 (filter test things)

module _ {A : Type 0} (text : ℕ → A → List ℕ) (test : A → Bool) (xs : List A) (i : ℕ) (x : A) (below : i < length xs) (is : x ≡ get_or xs i x) (first out : List ℕ) (count : ℕ)
    (so_far : AreDrawn text test (take i xs) first out count) where
  abbrev passed : List A
  passed = filter test (take i xs)

  more : (b : Bool) → test x ≡ b → filter test (take (i + 1) xs) ≡ passed ++ cond b (x ∷ []) []
  more b e = passed_more test xs i x below is ∙ ap (λ b. passed ++ cond b (x ∷ []) []) e

  pub one_drawn : test x ≡ true → (new : List ℕ) → new ≡ out ++ text (count + 1) x → AreDrawn text test (take (i + 1) xs) first new (count + 1)
  one_drawn e new is_new =
      let same : count + 1 ≡ 1 + length passed = omega (arith, so_far.counted) in
      let long : length (passed ++ x ∷ []) ≡ length passed + 1 = length-append passed (x ∷ []) in
      let counted : count + 1 ≡ length (passed ++ x ∷ []) = omega (arith, so_far.counted, long) in
      record {
        counted = counted ∙ ap length (sym (more true e));
        drawn =
            is_new ∙ ap (λ t. t ++ text (count + 1) x) so_far.drawn ∙ ap (λ n. (first ++ numbered text 1 passed) ++ text n x) same ∙ append_assoc first (numbered text 1 passed) (text (1 + length passed) x)
            ∙ ap (λ t. first ++ t) (sym (numbered_more text 1 passed x)) ∙ ap (λ things. first ++ numbered text 1 things) (sym (more true e));
      }

  pub none_drawn : test x ≡ false → AreDrawn text test (take (i + 1) xs) first out count
  none_drawn e =
      let same : passed ≡ filter test (take (i + 1) xs) = sym (append-nil passed) ∙ sym (more false e) in
      record { counted = so_far.counted ∙ ap length same; drawn = so_far.drawn ∙ ap (λ things. first ++ numbered text 1 things) same }
