-- Members of lists.
use Rattle.std.proofs.Common.{◌≡◌, ◌<◌, ◌⊎◌, inl, inr, Bool, true, false, cond, ◌||◌, true≢false, List, [], ◌∷◌, ◌++◌, map, refl, sym, ap, subst, ◌∙◌, arith}
use Rattle.std.specs.List.{Contains, list_any, filter}
use Rattle.std.proofs.lemmas.List.Elements.{Contains-push_cases, Contains-append_cases, Contains-append_left, Contains-append_right, Contains-push}
use Rattle.mst_graph.specs.Groups.{IsThinned, nothing, kept, left_out}

pub in_none : {A : Type 0} (x : A) → Contains [] x → ⊥
in_none x h = let below : h.0 < 0 = h.1 in omega arith

pub here : {A : Type 0} (x : A) (xs : List A) → Contains (x ∷ xs) x
here x xs = Contains-append_left (x ∷ []) xs x (Contains-push [] x)

pub there : {A : Type 0} (x y : A) (xs : List A) → Contains xs y → Contains (x ∷ xs) y
there x y xs h = Contains-append_right (x ∷ []) xs y h

-- a member is the first one or among the others
pub cases : {A : Type 0} (x y : A) (xs : List A) → Contains (x ∷ xs) y → (x ≡ y) ⊎ Contains xs y
cases x y xs h = elim (Contains-append_cases (x ∷ []) xs y h) [
  | inl a ↦ elim (Contains-push_cases [] x y a) [ inl b ↦ absurd (in_none y b) | inr b ↦ inl b ]
  | inr a ↦ inr a
]

-- what passes a test
pub passing : {A : Type 0} (test : A → Bool) (xs : List A) → list_any test xs ≡ true → (x : A) × Contains xs x × (test x ≡ true)
passing test [] h = absurd (true≢false (sym h))
passing test (x ∷ xs) h = go (test x) refl h (passing test xs)
  where
    go : (b : Bool) → test x ≡ b → b || list_any test xs ≡ true → (list_any test xs ≡ true → (y : _) × Contains xs y × (test y ≡ true)) → (y : _) × Contains (x ∷ xs) y × (test y ≡ true)
    go true e h rest = (x, here x xs, e)
    go false e h rest = let r = rest h in (r.0, there x r.0 xs r.1, r.2)

pub in_map : {A B : Type 0} (f : A → B) (xs : List A) (x : A) → Contains xs x → Contains (map f xs) (f x)
in_map f [] x h = absurd (in_none x h)
in_map f (y ∷ xs) x h = elim (cases y x xs h) [
  | inl e ↦ subst (λ z. Contains (f y ∷ map f xs) z) (ap f e) (here (f y) (map f xs))
  | inr a ↦ there (f y) (f x) (map f xs) (in_map f xs x a)
]

pub from_map : {A B : Type 0} (f : A → B) (xs : List A) (z : B) → Contains (map f xs) z → (x : A) × Contains xs x × (f x ≡ z)
from_map f [] z h = absurd (in_none z h)
from_map f (y ∷ xs) z h = elim (cases (f y) z (map f xs) h) [
  | inl e ↦ (y, here y xs, e)
  | inr a ↦ let r = from_map f xs z a in (r.0, there y r.0 xs r.1, r.2)
]

module _ {A : Type 0} (test : A → Bool) where
  pub in_filter : (xs : List A) (x : A) → Contains xs x → test x ≡ true → Contains (filter test xs) x
  in_filter [] x h p = absurd (in_none x h)
  in_filter (y ∷ xs) x h p = go (test y) refl (cases y x xs h) (λ a. in_filter xs x a p)
    where
      go : (b : Bool) → test y ≡ b → (y ≡ x) ⊎ Contains xs x → (Contains xs x → Contains (filter test xs) x) → Contains (cond b (y ∷ filter test xs) (filter test xs)) x
      go true e (inl same) rest = subst (λ z. Contains (y ∷ filter test xs) z) same (here y (filter test xs))
      go true e (inr a) rest = there y x (filter test xs) (rest a)
      go false e (inl same) rest = absurd (true≢false (sym p ∙ ap test (sym same) ∙ e))
      go false e (inr a) rest = rest a

  pub from_filter : (xs : List A) (x : A) → Contains (filter test xs) x → Contains xs x × (test x ≡ true)
  from_filter [] x h = absurd (in_none x h)
  from_filter (y ∷ xs) x h = go (test y) refl h (from_filter xs x)
    where
      go : (b : Bool) → test y ≡ b → Contains (cond b (y ∷ filter test xs) (filter test xs)) x → (Contains (filter test xs) x → Contains xs x × (test x ≡ true)) → Contains (y ∷ xs) x × (test x ≡ true)
      go true e h rest = elim (cases y x (filter test xs) h) [
        | inl same ↦ (subst (λ z. Contains (y ∷ xs) z) same (here y xs), ap test (sym same) ∙ e)
        | inr a ↦ let r = rest a in (there y x xs r.0, r.1)
      ]
      go false e h rest = let r = rest h in (there y x xs r.0, r.1)

  pub filter_thins : (xs : List A) → IsThinned (filter test xs) xs
  filter_thins [] = nothing
  filter_thins (y ∷ xs) = go (test y) (filter_thins xs)
    where
      go : (b : Bool) → IsThinned (filter test xs) xs → IsThinned (cond b (y ∷ filter test xs) (filter test xs)) (y ∷ xs)
      go true t = kept t
      go false t = left_out t

  -- nothing passes
  pub filter_none : (xs : List A) → ((x : A) → Contains xs x → test x ≡ false) → filter test xs ≡ []
  filter_none [] none = refl
  filter_none (y ∷ xs) none =
      ap (λ b. cond b (y ∷ filter test xs) (filter test xs)) (none y (here y xs)) ∙ filter_none xs (λ x h. none x (there y x xs h))

pub in_whole : {A : Type 0} {xs ys : List A} → IsThinned xs ys → (x : A) → Contains xs x → Contains ys x
in_whole nothing x h = h
in_whole (kept {x = y} {xs = xs} {ys = ys} t) x h = elim (cases y x xs h) [
  | inl same ↦ subst (λ z. Contains (y ∷ ys) z) same (here y ys)
  | inr a ↦ there y x ys (in_whole t x a)
]
in_whole (left_out {x = y} {ys = ys} t) x h = there y x ys (in_whole t x h)

pub thinned_none : {A : Type 0} (ys : List A) → IsThinned [] ys
thinned_none [] = nothing
thinned_none (y ∷ ys) = left_out (thinned_none ys)

-- one more at the end
pub kept_last : {A : Type 0} {xs ys : List A} (x : A) → IsThinned xs ys → IsThinned (xs ++ x ∷ []) (ys ++ x ∷ [])
kept_last x nothing = kept nothing
kept_last x (kept t) = kept (kept_last x t)
kept_last x (left_out t) = left_out (kept_last x t)

pub left_out_last : {A : Type 0} {xs ys : List A} (x : A) → IsThinned xs ys → IsThinned xs (ys ++ x ∷ [])
left_out_last x nothing = left_out nothing
left_out_last x (kept t) = kept (left_out_last x t)
left_out_last x (left_out t) = left_out (left_out_last x t)
