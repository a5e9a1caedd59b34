-- The members of each logical LAN, one more after another.
use Rattle.std.proofs.Common.{◌≡◌, ℕ, ◌+◌, ◌<◌, Bool, true, false, cond, List, [], ◌∷◌, ◌++◌, length, map, take, get_or, Option, Some, None, refl, sym, ap, ◌∙◌, append-nil}
use Rattle.std.specs.Prelude.{Vec}
use Rattle.std.specs.List.{filter}
use Rattle.std.specs.Option.{option_map_or}
use Rattle.std.specs.HashMap.{HashMap, get}
use Rattle.std.specs.Cmp.Lexicographic.{bytes_decides}
use Rattle.std.specs.declared.alloc.Global.{Global}
use Rattle.std.proofs.lemmas.List.{map-append}
use Rattle.std.proofs.lemmas.List.Elements.{filter_more}
use Rattle.mst_view.specs.Aggregation.{same_name}
use Rattle.mst_text.specs.KeptByLan.{kept_at}

-- two tests, in either order
pub filters_swapped : {A : Type 0} (p q : A → Bool) (xs : List A) → filter p (filter q xs) ≡ filter q (filter p xs)
filters_swapped p q [] = refl
filters_swapped {A} p q (x ∷ xs) = go (p x) refl (q x) refl (filters_swapped p q xs)
  where
    go : (a : Bool) → p x ≡ a → (b : Bool) → q x ≡ b → filter p (filter q xs) ≡ filter q (filter p xs)
        → filter p (cond b (x ∷ filter q xs) (filter q xs)) ≡ filter q (cond a (x ∷ filter p xs) (filter p xs))
    go true e true f h = ap (λ c. cond c (x ∷ filter p (filter q xs)) (filter p (filter q xs))) e ∙ ap (λ l. x ∷ l) h ∙ ap (λ c. cond c (x ∷ filter q (filter p xs)) (filter q (filter p xs))) (sym f)
    go true e false f h = h ∙ ap (λ c. cond c (x ∷ filter q (filter p xs)) (filter q (filter p xs))) (sym f)
    go false e true f h = ap (λ c. cond c (x ∷ filter p (filter q xs)) (filter p (filter q xs))) e ∙ h
    go false e false f h = h

-- what the elements of a name give
module _ {A B : Type 0} (name : A → List ℕ) (give : A → B) where
  abbrev pub given_in : List ℕ → List A → List B
  given_in q xs = map give (filter (λ x. same_name (name x) q) xs)

  lone : (x : A) (b : Bool) → cond b (give x ∷ []) [] ≡ map give (cond b (x ∷ []) [])
  lone x true = refl
  lone x false = refl

  pub one_more : (xs : List A) (i : ℕ) (x : A) → i < length xs → x ≡ get_or xs i x → (old new : List ℕ → List B) → ((q : List ℕ) → old q ≡ given_in q (take i xs))
      → ((q : List ℕ) → new q ≡ old q ++ cond (same_name (name x) q) (give x ∷ []) []) → (q : List ℕ) → new q ≡ given_in q (take (i + 1) xs)
  one_more xs i x below here old new before added q =
      let test : A → Bool = λ y. same_name (name y) q in
      let kept = filter test (take i xs) in
      added q
      ∙ (λ j. before q j ++ lone x (test x) j)
      ∙ sym (map-append give kept (cond (test x) (x ∷ []) []))
      ∙ ap (map give) (ap (λ y. kept ++ cond (test y) (y ∷ []) []) here ∙ sym (filter_more test xs i x below))

-- one that is added to what was kept for a name, and was taken away
pub one_added : {T S : Type 0} (old gone new : HashMap (List ℕ) (Vec T Global) S) (lan : List ℕ) (one : T) (kept : Vec T Global)
    → ((q : List ℕ) → get same_name gone q ≡ cond (same_name lan q) None (get same_name old q))
    → ((q : List ℕ) → get same_name new q ≡ cond (same_name lan q) (Some kept) (get same_name gone q))
    → kept.items ≡ kept_at old lan ++ one ∷ []
    → (q : List ℕ) → kept_at new q ≡ kept_at old q ++ cond (same_name lan q) (one ∷ []) []
one_added {T} old gone new lan one kept away put is q = go (same_name lan q) refl
  where
    items : Option (Vec T Global) → List T
    items o = option_map_or (λ w. w.items) o []

    at : (b : Bool) → same_name lan q ≡ b → kept_at new q ≡ items (cond b (Some kept) (cond b None (get same_name old q)))
    at b e = ap items (put q ∙ ap (λ o. cond (same_name lan q) (Some kept) o) (away q) ∙ ap (λ c. cond c (Some kept) (cond c None (get same_name old q))) e)

    go : (b : Bool) → same_name lan q ≡ b → kept_at new q ≡ kept_at old q ++ cond b (one ∷ []) []
    go true e = at true e ∙ is ∙ ap (λ l. kept_at old l ++ one ∷ []) ((bytes_decides lan q).0 e)
    go false e = at false e ∙ sym (append-nil (kept_at old q))
