-- Positions in lists, and lists of parts that have something.
use Rattle.std.proofs.Common.{◌≡◌, ℕ, ◌+◌, ◌≤◌, ◌||◌, Bool, true, false, cond, List, [], ◌∷◌, ◌++◌, Some, refl, sym, ap, ◌∙◌, true≢false, arith, inl, inr}
use Rattle.std.specs.List.{Contains, find, flat_map, list_any, position_from}
use Rattle.mst_graph.proofs.Members.{in_none, here, there, cases}
use Rattle.mst_vlan.proofs.forest_lemmas.Lists.{no_some, some_is}
use Rattle.mst_graph.specs.Lists.{has_any}

-- ---- the first place at which a test passes
module _ {A : Type 0} (p : A → Bool) where
  from_on : (k at : ℕ) (xs : List A) → position_from p k xs ≡ Some at → k ≤ at
  from_on k at [] e = absurd (no_some at e)
  from_on k at (x ∷ xs) e = go (p x) e (from_on (k + 1) at xs)
    where
      go : (b : Bool) → cond b (Some k) (position_from p (k + 1) xs) ≡ Some at → (position_from p (k + 1) xs ≡ Some at → k + 1 ≤ at) → k ≤ at
      go true e rest = let same : k ≡ at = some_is k at e in omega arith
      go false e rest = let more : k + 1 ≤ at = rest e in omega arith

  -- what passes has one
  pub has_place : (k : ℕ) (xs : List A) (x : A) → Contains xs x → p x ≡ true → (at : ℕ) × (position_from p k xs ≡ Some at)
  has_place k [] x h e = absurd (in_none x h)
  has_place k (y ∷ xs) x h e = go (p y) refl (λ later. has_place (k + 1) xs x later e)
    where
      go : (b : Bool) → p y ≡ b → (Contains xs x → (at : ℕ) × (position_from p (k + 1) xs ≡ Some at)) → (at : ℕ) × (cond b (Some k) (position_from p (k + 1) xs) ≡ Some at)
      go true f rest = (k, refl)
      go false f rest = elim (cases y x xs h) [
        | inl same ↦ absurd (true≢false (sym e ∙ ap p (sym same) ∙ f))
        | inr later ↦ rest later
      ]

  -- something that passes is found
  pub has_first : (xs : List A) (x : A) → Contains xs x → p x ≡ true → (y : A) × (find p xs ≡ Some y)
  has_first [] x h e = absurd (in_none x h)
  has_first (y ∷ xs) x h e = go (p y) refl (λ later. has_first xs x later e)
    where
      go : (b : Bool) → p y ≡ b → (Contains xs x → (z : A) × (find p xs ≡ Some z)) → (z : A) × (cond b (Some y) (find p xs) ≡ Some z)
      go true f rest = (y, refl)
      go false f rest = elim (cases y x xs h) [
        | inl same ↦ absurd (true≢false (sym e ∙ ap p (sym same) ∙ f))
        | inr later ↦ rest later
      ]

  -- and so does one of the list
  pub any_passes : (xs : List A) (x : A) → Contains xs x → p x ≡ true → list_any p xs ≡ true
  any_passes [] x h e = absurd (in_none x h)
  any_passes (y ∷ xs) x h e = go (p y) refl (λ later. any_passes xs x later e)
    where
      go : (b : Bool) → p y ≡ b → (Contains xs x → list_any p xs ≡ true) → (b || list_any p xs) ≡ true
      go true f rest = refl
      go false f rest = elim (cases y x xs h) [
        | inl same ↦ absurd (true≢false (sym e ∙ ap p (sym same) ∙ f))
        | inr later ↦ rest later
      ]

module _ {A : Type 0} (p q : A → Bool) where
  -- tests that agree have one place
  pub same_place : (k : ℕ) (xs : List A) → ((x : A) → Contains xs x → p x ≡ q x) → position_from p k xs ≡ position_from q k xs
  same_place k [] h = refl
  same_place k (x ∷ xs) h = ap (λ b. cond b (Some k) (position_from p (k + 1) xs)) (h x (here x xs)) ∙ ap (cond (q x) (Some k)) (same_place (k + 1) xs (λ y later. h y (there x y xs later)))

  abbrev Passed : List A → Type 0
  Passed xs = (x : A) × Contains xs x × (p x ≡ true) × (q x ≡ true)

  -- tests that have one place are passed by one thing
  pub both_pass : (k at : ℕ) (xs : List A) → position_from p k xs ≡ Some at → position_from q k xs ≡ Some at → (x : A) × Contains xs x × (p x ≡ true) × (q x ≡ true)
  both_pass k at [] e f = absurd (no_some at e)
  both_pass k at (x ∷ xs) e f = go (p x) refl (q x) refl (both_pass (k + 1) at xs) e f
    where
      go : (b : Bool) → p x ≡ b → (c : Bool) → q x ≡ c → (position_from p (k + 1) xs ≡ Some at → position_from q (k + 1) xs ≡ Some at → Passed xs) → cond b (Some k) (position_from p (k + 1) xs) ≡ Some at → cond c (Some k) (position_from q (k + 1) xs) ≡ Some at → Passed (x ∷ xs)
      go true b true c rest e f = (x, here x xs, b, c)
      go true b false c rest e f = let same : k ≡ at = some_is k at e in let more : k + 1 ≤ at = from_on q (k + 1) at xs f in absurd (omega arith)
      go false b true c rest e f = let same : k ≡ at = some_is k at f in let more : k + 1 ≤ at = from_on p (k + 1) at xs e in absurd (omega arith)
      go false b false c rest e f = let r = rest e f in (r.0, there x r.0 xs r.1, r.2, r.3)

-- ---- lists one after another
module _ {A B : Type 0} (f : A → List B) where
  any_more : (xs ys : List B) → has_any ys ≡ true → has_any (xs ++ ys) ≡ true
  any_more [] ys e = e
  any_more (x ∷ xs) ys e = refl

  any_first : (xs ys : List B) → has_any xs ≡ true → has_any (xs ++ ys) ≡ true
  any_first [] ys e = absurd (true≢false (sym e))
  any_first (x ∷ xs) ys e = refl

  pub has_text : (xs : List A) (x : A) → Contains xs x → has_any (f x) ≡ true → has_any (flat_map f xs) ≡ true
  has_text [] x h e = absurd (in_none x h)
  has_text (y ∷ xs) x h e = elim (cases y x xs h) [
    | inl same ↦ any_first (f y) (flat_map f xs) (ap (λ z. has_any (f z)) same ∙ e)
    | inr later ↦ any_more (f y) (flat_map f xs) (has_text xs x later e)
  ]

  pub from_text : (xs : List A) → has_any (flat_map f xs) ≡ true → (x : A) × Contains xs x × (has_any (f x) ≡ true)
  from_text [] e = absurd (true≢false (sym e))
  from_text (y ∷ xs) e = go (f y) refl (from_text xs) e
    where
      go : (t : List B) → f y ≡ t → (has_any (flat_map f xs) ≡ true → (x : A) × Contains xs x × (has_any (f x) ≡ true)) → has_any (t ++ flat_map f xs) ≡ true → (x : A) × Contains (y ∷ xs) x × (has_any (f x) ≡ true)
      go [] g rest e = let r = rest e in (r.0, there y r.0 xs r.1, r.2)
      go (c ∷ cs) g rest e = (y, here y xs, ap has_any g)
