-- A number above the greatest that passes a test fails it, and where not all pass a test one fails it.
use Rattle.std.proofs.Common.{◌≡◌, ◌≢◌, ◌⊎◌, inl, inr, ℕ, zero, suc, ◌-◌, ◌<◌, ◌≤◌, ◌&&◌, Bool, true, false, cond, true≢false, List, [], ◌∷◌, Some, refl, sym, ap, subst, ◌∙◌, arith}
use Rattle.std.specs.List.{Contains, find, list_all}
use Rattle.std.proofs.lemmas.Bool.{cases_eq}
use Rattle.mst_graph.proofs.Members.{here, there}
use Rattle.mst_forest.proofs.Lists.{no_some, some_is}
use Rattle.mst_advise.specs.Priorities.{greatest_upto}
use Rattle.mst_advise.proofs.GreatestUpto.{greatest_here, greatest_below}

pub above_fails : (passes : ℕ → Bool) (n q : ℕ) → q ≤ n → ((p : ℕ) → greatest_upto passes n ≡ Some p → p < q) → passes q ≡ false
above_fails passes zero q low above = go (passes 0) refl
  where
    go : (t : Bool) → passes 0 ≡ t → passes q ≡ false
    go true e = let l : 0 < q = above 0 (greatest_here passes 0 e) in absurd (omega arith)
    go false e = let same : q ≡ 0 = omega arith in ap passes same ∙ e
above_fails passes (suc n) q low above = go (passes (suc n)) refl (cases_eq q (suc n)) (above_fails passes n q)
  where
    go : (t : Bool) → passes (suc n) ≡ t → (q ≡ suc n) ⊎ (q ≡ suc n → ⊥) → (q ≤ n → ((p : ℕ) → greatest_upto passes n ≡ Some p → p < q) → passes q ≡ false) → passes q ≡ false
    go true e same rest = let l : suc n < q = above (suc n) (greatest_here passes (suc n) e) in absurd (omega arith)
    go false e (inl same) rest = ap passes same ∙ e
    go false e (inr other) rest =
        let some : suc n ≢ 0 = λ none. omega arith in
        let less : suc n - 1 ≡ n = omega arith in
        rest (omega (arith, other)) (λ p is. above p (greatest_below passes (suc n) some e ∙ ap (greatest_upto passes) less ∙ is))

pub one_fails : {A : Type 0} (test : A → Bool) (xs : List A) → list_all test xs ≡ false → (x : A) × Contains xs x × (test x ≡ false)
one_fails test [] e = absurd (true≢false e)
one_fails {A} test (x ∷ xs) e = go (test x) refl e (one_fails test xs)
  where
    go : (t : Bool) → test x ≡ t → (t && list_all test xs) ≡ false → (list_all test xs ≡ false → (y : A) × Contains xs y × (test y ≡ false)) → (y : A) × Contains (x ∷ xs) y × (test y ≡ false)
    go true is e rest = let r = rest e in (r.0, there x r.0 xs r.1, r.2)
    go false is e rest = (x, here x xs, is)

pub found_passes : {A : Type 0} (test : A → Bool) (xs : List A) (x : A) → find test xs ≡ Some x → Contains xs x × (test x ≡ true)
found_passes test [] x e = absurd (no_some x e)
found_passes {A} test (y ∷ ys) x e = go (test y) refl e (found_passes test ys x)
  where
    go : (t : Bool) → test y ≡ t → cond t (Some y) (find test ys) ≡ Some x → (find test ys ≡ Some x → Contains ys x × (test x ≡ true)) → Contains (y ∷ ys) x × (test x ≡ true)
    go true is e rest = let same : y ≡ x = some_is y x e in (subst (Contains (y ∷ ys)) same (here y ys), ap test (sym same) ∙ is)
    go false is e rest = let r = rest e in (there y x ys r.0, r.1)
