-- Functions of lists that go on element by element, and loops that put what they give.
use Rattle.std.proofs.Common.{◌≡◌, ◌∙◌, ℕ, zero, suc, ◌+◌, ◌||◌, ◌<◌, ◌≤◌, Bool, true, false, List, [], ◌∷◌, ◌++◌, cond, length, map, take, get_or, refl, sym, ap, subst, append_assoc, append-nil, add-zero, arith}
use Rattle.std.specs.Cmp.{unsigned_Decides}
use Rattle.std.specs.Prelude.{◌==◌}
use Rattle.std.specs.List.{count_by, filter, flat_map, list_any}
use Rattle.std.proofs.lemmas.Grind.{flat_map-append}
use Rattle.std.proofs.lemmas.List.{length-take, map-append, take_all, take_more}
use Rattle.std.proofs.lemmas.List.Elements.{filter-append}
use Rattle.std.proofs.lemmas.List.Folds.{list_any-append}
use Rattle.std.proofs.lemmas.List.Sums.{sum_by-append, sum_by-cons}
use Rattle.mst_telling.specs.Judged.{each_from}

-- with one element more there is what there was, and then something of the element and of its place
pub record GoesOn {X A : Type 0} (F : List X → List A) (G : ℕ → X → List A) : Type 0 where
  pub on : (xs : List X) (x : X) → F (xs ++ x ∷ []) ≡ F xs ++ G (length xs) x

flat_on : {X A : Type 0} (f : X → List A) (xs : List X) (x : X) → flat_map f (xs ++ x ∷ []) ≡ flat_map f xs ++ f x
flat_on f xs x = flat_map-append f xs (x ∷ []) ∙ ap (λ (more : List _). flat_map f xs ++ more) (append-nil (f x))

each_on : {X A : Type 0} (f : ℕ → X → A) (x : X) (k : ℕ) (xs : List X) → each_from f k (xs ++ x ∷ []) ≡ each_from f k xs ++ f (k + length xs) x ∷ []
each_on f x k [] = let e : k ≡ k + 0 = omega arith in ap (λ n. f n x ∷ []) e
each_on {X} {A} f x k (y ∷ ys) =
    let next : (k + 1) + length ys ≡ k + length (y ∷ ys) = omega arith in
    ap (λ (l : List A). f k y ∷ l) (each_on f x (k + 1) ys ∙ ap (λ n. each_from f (k + 1) ys ++ f n x ∷ []) next)

each_first : {X A : Type 0} (f : ℕ → X → A) (xs : List X) (x : X) → each_from f 0 (xs ++ x ∷ []) ≡ each_from f 0 xs ++ f (length xs) x ∷ []
each_first f xs x = let e : 0 + length xs ≡ length xs = omega arith in each_on f x 0 xs ∙ ap (λ n. each_from f 0 xs ++ f n x ∷ []) e

pub mapped : {X A : Type 0} (f : X → A) → GoesOn (map f) (λ n x. f x ∷ [])
mapped f = record { on = λ xs x. map-append f xs (x ∷ []) }

pub flat : {X A : Type 0} (f : X → List A) → GoesOn (flat_map f) (λ n x. f x)
flat f = record { on = flat_on f }

pub flat_mapped : {X Y A : Type 0} (f : Y → List A) (h : X → Y) → GoesOn (λ xs. flat_map f (map h xs)) (λ n x. f (h x))
flat_mapped f h = record { on = λ xs x. ap (flat_map f) (map-append h xs (x ∷ [])) ∙ flat_on f (map h xs) (h x) }

pub each : {X A : Type 0} (f : ℕ → X → A) → GoesOn (each_from f 0) (λ n x. f n x ∷ [])
each f = record { on = each_first f }

pub flat_each : {X Y A : Type 0} (g : Y → List A) (f : ℕ → X → Y) → GoesOn (λ xs. flat_map g (each_from f 0 xs)) (λ n x. g (f n x))
flat_each g f = record { on = λ xs x. ap (flat_map g) (each_first f xs x) ∙ flat_on g (each_from f 0 xs) (f (length xs) x) }

-- one after another
pub then_mapped : {X A B : Type 0} {F : List X → List A} {G : ℕ → X → List A} (f : A → B) → GoesOn F G → GoesOn (λ xs. map f (F xs)) (λ n x. map f (G n x))
then_mapped {X} {A} {B} {F} {G} f h = record { on = λ xs x. ap (map f) (h.on xs x) ∙ map-append f (F xs) (G (length xs) x) }

pub then_filtered : {X A : Type 0} {F : List X → List A} {G : ℕ → X → List A} (test : A → Bool) → GoesOn F G → GoesOn (λ xs. filter test (F xs)) (λ n x. filter test (G n x))
then_filtered {X} {A} {F} {G} test h = record { on = λ xs x. ap (filter test) (h.on xs x) ∙ filter-append test (F xs) (G (length xs) x) }

pub filtered : {X : Type 0} (test : X → Bool) → GoesOn (filter test) (λ n x. cond (test x) (x ∷ []) [])
filtered test = record { on = λ xs x. filter-append test xs (x ∷ []) }

-- one thing, if it passes
pub one_mapped : {A B : Type 0} (f : A → B) (x : A) (wanted passes : Bool) → wanted ≡ passes → cond wanted (f x ∷ []) [] ≡ map f (cond passes (x ∷ []) [])
one_mapped {A} {B} f x wanted passes e = ap (λ b. cond b (f x ∷ []) []) e ∙ go passes
  where
    go : (b : Bool) → cond b (f x ∷ []) [] ≡ map f (cond b (x ∷ []) [])
    go true = refl
    go false = refl

-- ---- loops
pub taken : {X A : Type 0} {F : List X → List A} {G : ℕ → X → List A} → GoesOn F G → (xs : List X) (i : ℕ) (x : X) → i < length xs → x ≡ get_or xs i x → F (take (i + 1) xs) ≡ F (take i xs) ++ G i x
taken {X} {A} {F} {G} h xs i x below is =
    let long : length (take i xs) ≡ i = omega (arith, length-take i xs) in
    ap F (take_more xs i x below ∙ ap (λ z. take i xs ++ z ∷ []) (sym is)) ∙ h.on (take i xs) x ∙ ap (λ n. F (take i xs) ++ G n x) long

-- what grew by that of the elements so far, and by that of the next one
pub more : {X A : Type 0} {F : List X → List A} {G : ℕ → X → List A} (grown : List A → Type 0) → GoesOn F G → (xs : List X) (i : ℕ) (x : X) (rows : List A) → i < length xs → x ≡ get_or xs i x
    → grown ((rows ++ F (take i xs)) ++ G i x) → grown (rows ++ F (take (i + 1) xs))
more {X} {A} {F} {G} grown on xs i x rows below is h = subst grown (append_assoc rows (F (take i xs)) (G i x) ∙ ap (λ (l : List A). rows ++ l) (sym (taken on xs i x below is))) h

pub whole : {X A : Type 0} {F : List X → List A} {G : ℕ → X → List A} (grown : List A → Type 0) → GoesOn F G → (xs : List X) (i : ℕ) (rows : List A) → length xs ≤ i → grown (rows ++ F (take i xs)) → grown (rows ++ F xs)
whole {X} {A} {F} {G} grown on xs i rows above h = subst (λ (ys : List X). grown (rows ++ F ys)) (take_all i xs above) h

-- a place within a list has something
pub at_place : {X : Type 0} (xs : List X) (i : ℕ) → i < length xs → (x : X) × (x ≡ get_or xs i x)
at_place [] i below = absurd (omega (arith, below))
at_place (x ∷ xs) zero below = (x, refl)
at_place (x ∷ xs) (suc i) below = at_place xs i (omega (arith, below))

or_nothing : (b : Bool) → (b || false) ≡ b
or_nothing true = refl
or_nothing false = refl

pub any_each : {X A : Type 0} (test : A → Bool) (f : ℕ → X → A) (xs : List X) (i : ℕ) (x : X) → i < length xs → x ≡ get_or xs i x
    → list_any test (each_from f 0 (take (i + 1) xs)) ≡ (list_any test (each_from f 0 (take i xs)) || test (f i x))
any_each test f xs i x below is =
    ap (list_any test) (taken (each f) xs i x below is) ∙ list_any-append test (each_from f 0 (take i xs)) (f i x ∷ []) ∙ ap (λ b. list_any test (each_from f 0 (take i xs)) || b) (or_nothing (test (f i x)))

-- ---- counts
pub positive : (n : ℕ) → (suc n == 0) ≡ false
positive n = go (suc n == 0) refl
  where
    go : (b : Bool) → (suc n == 0) ≡ b → (suc n == 0) ≡ false
    go false e = e
    go true e = let none : suc n ≡ 0 = (unsigned_Decides (suc n) 0).0 e in absurd (omega (arith, none))

pub each_length : {X A : Type 0} (f : ℕ → X → A) (k : ℕ) (xs : List X) → length (each_from f k xs) ≡ length xs
each_length f k [] = refl
each_length f k (x ∷ xs) = ap suc (each_length f (k + 1) xs)

abbrev pub one_if : Bool → ℕ
one_if b = cond b 1 0

pub counted : {A : Type 0} (test : A → Bool) (xs : List A) (x : A) → count_by test (xs ++ x ∷ []) ≡ count_by test xs + one_if (test x)
counted test xs x = sum_by-append (λ y. one_if (test y)) xs (x ∷ []) ∙ ap (λ n. count_by test xs + n) (sum_by-cons (λ y. one_if (test y)) x [] ∙ add-zero _)

pub counted_more : {A : Type 0} (test : A → Bool) (xs : List A) (i : ℕ) (x : A) → i < length xs → x ≡ get_or xs i x → count_by test (take (i + 1) xs) ≡ count_by test (take i xs) + one_if (test x)
counted_more test xs i x below is = ap (count_by test) (take_more xs i x below ∙ ap (λ z. take i xs ++ z ∷ []) (sym is)) ∙ counted test (take i xs) x

pub counted_mapped : {X A : Type 0} (test : A → Bool) (h : X → A) (xs : List X) (i : ℕ) (x : X) → i < length xs → x ≡ get_or xs i x
    → count_by test (map h (take (i + 1) xs)) ≡ count_by test (map h (take i xs)) + one_if (test (h x))
counted_mapped test h xs i x below is = ap (count_by test) (taken (mapped h) xs i x below is) ∙ counted test (map h (take i xs)) (h x)

pub one_few : (b : Bool) → one_if b ≤ 1
one_few true = omega arith
one_few false = omega arith

pub counted_each : {X A : Type 0} (test : A → Bool) (f : ℕ → X → A) (xs : List X) (i : ℕ) (x : X) → i < length xs → x ≡ get_or xs i x
    → count_by test (each_from f 0 (take (i + 1) xs)) ≡ count_by test (each_from f 0 (take i xs)) + one_if (test (f i x))
counted_each test f xs i x below is = ap (count_by test) (taken (each f) xs i x below is) ∙ counted test (each_from f 0 (take i xs)) (f i x)
