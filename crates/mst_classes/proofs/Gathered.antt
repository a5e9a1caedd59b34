-- Lists in which each thing that was met stands once.
use Rattle.std.proofs.Common.{◌≡◌, ℕ, zero, suc, ◌+◌, ◌<◌, Bool, true, false, cond, not, List, [], ◌∷◌, ◌++◌, length, take, get_or, refl, sym, ap, subst, ◌∙◌, true≢false, arith}
use Rattle.std.specs.List.{AllByRecursion, Contains, list_any}
use Rattle.std.proofs.lemmas.List.{take_more}
use Rattle.std.proofs.lemmas.List.Elements.{Contains-append_left, Contains-push}
use Rattle.std.proofs.lemmas.Map.Views.{Contains-from_any}
use Rattle.mst_view.proofs.Lists.{all_weaker, all_pushed}

-- ---- what is true of each
all_at : {A : Type 0} (P : A → Type 0) (xs : List A) (i : ℕ) (d : A) → i < length xs → AllByRecursion P xs → P (get_or xs i d)
all_at P [] i d l h = absurd (omega arith)
all_at P (x ∷ xs) zero d l h = h.0
all_at P (x ∷ xs) (suc i) d l h = all_at P xs i d (omega arith) h.1

pub all_contained : {A : Type 0} (P : A → Type 0) (xs : List A) (x : A) → AllByRecursion P xs → Contains xs x → P x
all_contained P xs x h c = subst P c.2 (all_at P xs c.0 x c.1 h)

-- ---- things met
-- one more thing that was met, and a list that has what the list had and the thing
pub met_more : {A X : Type 0} (key : A → X) (xs : List A) (i : ℕ) (x : A) → i < length xs → x ≡ get_or xs i x → (old new : List X) → ((y : X) → Contains old y → Contains new y) → Contains new (key x)
    → AllByRecursion (λ a. Contains old (key a)) (take i xs) → AllByRecursion (λ a. Contains new (key a)) (take (i + 1) xs)
met_more key xs i x l is old new more last h =
    subst (AllByRecursion (λ a. Contains new (key a))) (sym (take_more xs i x l))
    (all_pushed (λ a. Contains new (key a)) (take i xs) (get_or xs i x) (all_weaker _ _ (λ a. more (key a)) (take i xs) h) (subst (λ a. Contains new (key a)) is last))

-- a thing is put into a set of things, where equal ones are the same
module _ {X : Type 0} (same : X → X → Bool) (tells : (x y : X) → same x y ≡ true → x ≡ y) (old new : List X) (x : X) (is_new : Bool) (are : new ≡ cond (list_any (same x) old) old (old ++ x ∷ [])) (told : is_new ≡ not (list_any (same x) old)) where
  was_there : is_new ≡ false → list_any (same x) old ≡ true
  was_there e = by (list_any (same x) old) (sym told ∙ e)
    where
      by : (b : Bool) → not b ≡ false → b ≡ true
      by true f = refl
      by false f = absurd (true≢false f)

  was_not : is_new ≡ true → list_any (same x) old ≡ false
  was_not e = by (list_any (same x) old) (sym told ∙ e)
    where
      by : (b : Bool) → not b ≡ true → b ≡ false
      by true f = absurd (true≢false (sym f))
      by false f = refl

  pub known_same : is_new ≡ false → new ≡ old
  known_same e = are ∙ ap (λ b. cond b old (old ++ x ∷ [])) (was_there e)

  pub known_there : is_new ≡ false → Contains old x
  known_there e = Contains-from_any tells x old (was_there e)

  pub new_pushed : is_new ≡ true → new ≡ old ++ x ∷ []
  new_pushed e = are ∙ ap (λ b. cond b old (old ++ x ∷ [])) (was_not e)

-- and is among them then, beside all that were
module _ {X : Type 0} (same : X → X → Bool) (tells : (x y : X) → same x y ≡ true → x ≡ y) (old new : List X) (x : X) (are : new ≡ cond (list_any (same x) old) old (old ++ x ∷ [])) where
  pub put_there : Contains new x
  put_there = by (list_any (same x) old) refl are
    where
      by : (b : Bool) → list_any (same x) old ≡ b → new ≡ cond b old (old ++ x ∷ []) → Contains new x
      by true e f = subst (λ xs. Contains xs x) (sym f) (Contains-from_any tells x old e)
      by false e f = subst (λ xs. Contains xs x) (sym f) (Contains-push old x)

  pub put_beside : (y : X) → Contains old y → Contains new y
  put_beside y h = by (list_any (same x) old) are
    where
      by : (b : Bool) → new ≡ cond b old (old ++ x ∷ []) → Contains new y
      by true f = subst (λ xs. Contains xs y) (sym f) h
      by false f = subst (λ xs. Contains xs y) (sym f) (Contains-append_left old (x ∷ []) y h)

-- the things so far are among those that were met, and so is what was met before
pub record MetSoFar {A X : Type 0} (key : A → X) (things : List A) (first now : List X) : Type 0 where
  pub there : AllByRecursion (λ a. Contains now (key a)) things
  pub before : (x : X) → Contains first x → Contains now x

pub none_so_far : {A X : Type 0} (key : A → X) (first : List X) → MetSoFar key [] first first
none_so_far key first = record { there = tt; before = λ x h. h }

module _ {A X : Type 0} (key : A → X) (xs : List A) (i : ℕ) (x : A) (l : i < length xs) (is : x ≡ get_or xs i x) (first old : List X) (m : MetSoFar key (take i xs) first old) where
  -- one is put
  pub one_put : (same : X → X → Bool) → ((x y : X) → same x y ≡ true → x ≡ y) → (new : List X) (y : X) → y ≡ key x → new ≡ cond (list_any (same y) old) old (old ++ y ∷ []) → MetSoFar key (take (i + 1) xs) first new
  one_put same tells new y e are = record {
    there = met_more key xs i x l is old new (put_beside same tells old new y are) (subst (Contains new) e (put_there same tells old new y are)) m.there;
    before = λ z h. put_beside same tells old new y are z (m.before z h);
  }

  -- one was there
  pub one_there : (y : X) → y ≡ key x → Contains old y → MetSoFar key (take (i + 1) xs) first old
  one_there y e there = record {
    there = met_more key xs i x l is old old (λ z h. h) (subst (Contains old) e there) m.there;
    before = m.before;
  }
