-- Lists: whether there is something, and what a filter and a map to lists leave.
use Rattle.std.proofs.Common.{◌≡◌, ◌↔◌, ◌⊎◌, inl, inr, ℕ, ◌==◌, Bool, true, false, cond, not, ◌&&◌, ◌||◌, true≢false, List, [], ◌∷◌, ◌++◌, map, Option, Some, None, refl, sym, ap, subst, ◌∙◌}
use Rattle.std.specs.Prelude.{if◌then◌else◌}
use Rattle.std.specs.List.{Contains, cons_option, filter, filter_map, flat_map, list_any}
use Rattle.std.proofs.lemmas.Bool.{eqb-true}
use Rattle.mst_graph.specs.Groups.{IsThinned, StandOnce, nothing, kept}
use Rattle.mst_graph.proofs.Members.{here, there, cases, in_none, in_filter, from_filter}
use Rattle.mst_graph.specs.Lists.{has_any}
use Rattle.mst_roles.proofs.forest_lemmas.Lists.{kept_in, kept_from, no_some}

-- ---- there is something
pub any_there : {A : Type 0} (xs : List A) → has_any xs ≡ true → (x : A) × Contains xs x
any_there [] e = absurd (true≢false (sym e))
any_there (x ∷ xs) e = (x, here x xs)

pub there_any : {A : Type 0} (xs : List A) (x : A) → Contains xs x → has_any xs ≡ true
there_any [] x h = absurd (in_none x h)
there_any (y ∷ xs) x h = refl

pub no_any : {A : Type 0} (xs : List A) → has_any xs ≡ false → xs ≡ []
no_any [] e = refl
no_any (x ∷ xs) e = absurd (true≢false e)

pub empty_any : {A : Type 0} (xs : List A) → xs ≡ [] → has_any xs ≡ false
empty_any xs e = ap has_any e

pub not_any : {A : Type 0} (xs : List A) → ((x : A) → Contains xs x → ⊥) → has_any xs ≡ false
not_any [] h = refl
not_any (x ∷ xs) h = absurd (h x (here x xs))

-- some passes
pub any_passes : {A : Type 0} (test : A → Bool) (xs : List A) (x : A) → Contains xs x → test x ≡ true → list_any test xs ≡ true
any_passes test [] x h e = absurd (in_none x h)
any_passes test (y ∷ xs) x h e = go (test y) refl (cases y x xs h) (λ a. any_passes test xs x a e)
  where
    go : (b : Bool) → test y ≡ b → (y ≡ x) ⊎ Contains xs x → (Contains xs x → list_any test xs ≡ true) → b || list_any test xs ≡ true
    go true f c rest = refl
    go false f (inl same) rest = absurd (true≢false (sym e ∙ ap test (sym same) ∙ f))
    go false f (inr a) rest = rest a

-- ---- one thing where a test says so
pub told_if : {A : Type 0} (b : Bool) (x : A) → ((if b then x ∷ [] else []) ≡ []) ↔ (b ≡ false)
told_if true x = (λ e. absurd (cc), λ e. absurd (true≢false e))
told_if false x = (λ e. refl, λ e. refl)

-- ---- nothing passes
pub passes_none : {A : Type 0} (test : A → Bool) (xs : List A) → has_any (filter test xs) ≡ false → (x : A) → Contains xs x → test x ≡ false
passes_none test xs e x h = go (test x) refl
  where
    go : (b : Bool) → test x ≡ b → test x ≡ false
    go true f = absurd (true≢false (sym (there_any (filter test xs) x (in_filter test xs x h f)) ∙ e))
    go false f = f

pub none_passes : {A : Type 0} (test : A → Bool) (xs : List A) → ((x : A) → Contains xs x → test x ≡ false) → has_any (filter test xs) ≡ false
none_passes test xs h = not_any (filter test xs) (λ x k. let r = from_filter test xs x k in true≢false (sym r.1 ∙ h x r.0))

pub filter_twice : {A : Type 0} (p q : A → Bool) (xs : List A) → filter p (filter q xs) ≡ filter (λ x. q x && p x) xs
filter_twice p q [] = refl
filter_twice {A} p q (x ∷ xs) = go (q x) (filter_twice p q xs)
  where
    go : (b : Bool) → filter p (filter q xs) ≡ filter (λ x. q x && p x) xs → filter p (cond b (x ∷ filter q xs) (filter q xs)) ≡ cond (b && p x) (x ∷ filter (λ x. q x && p x) xs) (filter (λ x. q x && p x) xs)
    go true e = ap (λ l. cond (p x) (x ∷ l) l) e
    go false e = e

-- ---- lists of each
front_none : {A : Type 0} (xs ys : List A) → xs ++ ys ≡ [] → xs ≡ []
front_none [] ys e = refl
front_none (x ∷ xs) ys e = absurd (cc)

back_none : {A : Type 0} (xs ys : List A) → xs ++ ys ≡ [] → ys ≡ []
back_none [] ys e = e
back_none (x ∷ xs) ys e = absurd (cc)

pub each_none : {A B : Type 0} (f : A → List B) (xs : List A) → flat_map f xs ≡ [] → (x : A) → Contains xs x → f x ≡ []
each_none f [] e x h = absurd (in_none x h)
each_none f (y ∷ xs) e x h = elim (cases y x xs h) [
  | inl same ↦ ap f (sym same) ∙ front_none (f y) (flat_map f xs) e
  | inr a ↦ each_none f xs (back_none (f y) (flat_map f xs) e) x a
]

pub none_each : {A B : Type 0} (f : A → List B) (xs : List A) → ((x : A) → Contains xs x → f x ≡ []) → flat_map f xs ≡ []
none_each f [] h = refl
none_each f (y ∷ xs) h = (λ i. h y (here y xs) i ++ flat_map f xs) ∙ none_each f xs (λ x k. h x (there y x xs k))

-- ---- what is kept of each
pub kept_none : {A B : Type 0} (f : A → Option B) (xs : List A) → filter_map f xs ≡ [] → (x : A) → Contains xs x → f x ≡ None
kept_none {A} {B} f xs e x h = go (f x) refl
  where
    go : (o : Option B) → f x ≡ o → f x ≡ None
    go None k = k
    go (Some y) k = absurd (in_none y (subst (λ ys. Contains ys y) e (kept_in f xs x y h k)))

pub none_kept : {A B : Type 0} (f : A → Option B) (xs : List A) → ((x : A) → Contains xs x → f x ≡ None) → filter_map f xs ≡ []
none_kept f xs h = no_any (filter_map f xs) (not_any (filter_map f xs) (λ y k. let r = kept_from f xs y k in no_some y (sym (h r.0 r.1) ∙ r.2)))

-- ---- thinned lists
pub thinned_self : {A : Type 0} (xs : List A) → IsThinned xs xs
thinned_self [] = nothing
thinned_self (x ∷ xs) = kept (thinned_self xs)

-- ---- lists without repeats
pub once_filtered : {A : Type 0} (test : A → Bool) (xs : List A) → StandOnce xs → StandOnce (filter test xs)
once_filtered test [] h = tt
once_filtered test (x ∷ xs) h = go (test x) (once_filtered test xs h.1)
  where
    go : (b : Bool) → StandOnce (filter test xs) → StandOnce (cond b (x ∷ filter test xs) (filter test xs))
    go true rest = (λ there. h.0 (from_filter test xs x there).0, rest)
    go false rest = rest

-- ---- the same of each
pub each_same : {A B : Type 0} (f g : A → List B) (xs : List A) → ((x : A) → Contains xs x → f x ≡ g x) → flat_map f xs ≡ flat_map g xs
each_same f g [] h = refl
each_same f g (x ∷ xs) h = let first = h x (here x xs) in let others = each_same f g xs (λ y k. h y (there x y xs k)) in λ i. first i ++ others i

-- ---- lists of what there is of names
pub flat_named : {A B C : Type 0} (name : A → B) (f g : B → List C) → ((x : B) → f x ≡ g x) → (xs : List A) → flat_map (λ x. f (name x)) xs ≡ flat_map g (map name xs)
flat_named name f g same [] = refl
flat_named name f g same (x ∷ xs) = λ i. same (name x) i ++ flat_named name f g same xs i

-- those of which a test of their names passes, where what is made of a thing has its name
module _ {A B : Type 0} (h : A → Option B) (name : A → List ℕ) (made : B → List ℕ) (same : (x : A) (y : B) → h x ≡ Some y → made y ≡ name x) (test : List ℕ → Bool) where
  abbrev passed : List A → List A
  passed = filter (λ x. test (name x))

  abbrev after : List B → List B
  after = filter (λ y. test (made y))

  pub kept_named : (xs : List A) → filter_map h (passed xs) ≡ after (filter_map h xs)
  kept_named [] = refl
  kept_named (x ∷ xs) = go (test (name x)) refl (h x) refl (kept_named xs)
    where
      go : (b : Bool) → test (name x) ≡ b → (o : Option B) → h x ≡ o → filter_map h (passed xs) ≡ after (filter_map h xs) → filter_map h (cond b (x ∷ passed xs) (passed xs)) ≡ after (cons_option o (filter_map h xs))
      go true e None f rest = ap (λ o. cons_option o (filter_map h (passed xs))) f ∙ rest
      go true e (Some y) f rest =
          ap (λ o. cons_option o (filter_map h (passed xs))) f ∙ ap (λ ys. y ∷ ys) rest
          ∙ sym (ap (λ b. cond b (y ∷ after (filter_map h xs)) (after (filter_map h xs))) (ap test (same x y f) ∙ e))
      go false e None f rest = rest
      go false e (Some y) f rest = rest ∙ sym (ap (λ b. cond b (y ∷ after (filter_map h xs)) (after (filter_map h xs))) (ap test (same x y f) ∙ e))

-- ---- booleans
pub true_both : (b c : Bool) → b ≡ true → c ≡ true → (b && c) ≡ true
true_both b c e f = ap (λ b. b && c) e ∙ f

pub no_true : (b : Bool) → (b ≡ true → ⊥) → b ≡ false
no_true true n = absurd (n refl)
no_true false n = refl

-- two numbers that aren't apart are one
pub same_place : (i j : ℕ) (b : Bool) → (j == i) ≡ b → (not (j == i) ≡ true → ⊥) → j ≡ i
same_place i j true k n = eqb-true j i k
same_place i j false k n = absurd (n (ap not k))
