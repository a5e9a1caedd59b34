-- Lists of things, with a flag and a set for each of them.
use Rattle.std.proofs.Common.{◌≡◌, ℕ, zero, suc, ◌+◌, ◌<◌, ◌&&◌, Bool, true, false, cond, List, [], ◌∷◌, ◌++◌, length, map, filter, take, get_or, refl, sym, ap, ◌∙◌, true≢false, add-one, arith}
use Rattle.std.specs.Bool.{beq}
use Rattle.std.specs.Prelude.{not}
use Rattle.std.specs.Cmp.Lexicographic.{pointwise}
use Rattle.std.proofs.lemmas.Bool.{and_parts}
use Rattle.std.proofs.Math.Seq.{take-suc}
use Rattle.std.proofs.lemmas.List.{map-append, get_or_default, ext_get_or}
use Rattle.std.proofs.lemmas.List.Elements.{filter-append}

-- both of two flags, in one order or the other
both_flags : (a b : Bool) → (a && b) ≡ (b && a)
both_flags true true = refl
both_flags true false = refl
both_flags false true = refl
both_flags false false = refl

-- the two flags of the thing at a place
pub both_at : {A : Type 0} (test other : A → Bool) (xs : List A) (i : ℕ) → get_or (map (λ x. test x && other x) xs) i false ≡ (get_or (map other xs) i false && get_or (map test xs) i false)
both_at test other [] i = refl
both_at test other (x ∷ xs) zero = both_flags (test x) (other x)
both_at test other (x ∷ xs) (suc i) = both_at test other xs i

-- what a test of the sets of things says of the thing at a place
pub tested_at : {A S : Type 0} (test : S → Bool) (own : A → S) (d : S) (none : test d ≡ false) (xs : List A) (i : ℕ) → get_or (map (λ x. test (own x)) xs) i false ≡ test (get_or (map own xs) i d)
tested_at test own d none [] i = sym none
tested_at test own d none (x ∷ xs) zero = refl
tested_at test own d none (x ∷ xs) (suc i) = tested_at test own d none xs i

-- the things of which the flags of two kinds are set, of those to a place and the one there
one_passes : {A : Type 0} (test other : A → Bool) (x : A) (b : Bool) → (other x && test x) ≡ b → filter test (filter other (x ∷ [])) ≡ cond b (x ∷ []) []
one_passes test other x b e = go (other x) refl (test x) refl b e
  where
    go : (o : Bool) → other x ≡ o → (t : Bool) → test x ≡ t → (b : Bool) → (o && t) ≡ b → filter test (filter other (x ∷ [])) ≡ cond b (x ∷ []) []
    go true f true h true k = rw f (rw h refl)
    go true f false h false k = rw f (rw h refl)
    go false f t h false k = rw f refl
    go true f true h false k = absurd (true≢false k)
    go true f false h true k = absurd (true≢false (sym k))
    go false f t h true k = absurd (true≢false (sym k))

pub more_passed : {A : Type 0} (test other : A → Bool) (xs : List A) (i : ℕ) (x : A) (b : Bool) → i < length xs → get_or xs i x ≡ x → (other x && test x) ≡ b
    → filter test (filter other (take (i + 1) xs)) ≡ filter test (filter other (take i xs)) ++ cond b (x ∷ []) []
more_passed test other xs i x b below is e =
    ap (λ n. filter test (filter other (take n xs))) (add-one i)
    ∙ ap (λ ys. filter test (filter other ys)) (take-suc xs i x below ∙ ap (λ y. take i xs ++ y ∷ []) is)
    ∙ ap (filter test) (filter-append other (take i xs) (x ∷ []))
    ∙ filter-append test (filter other (take i xs)) (filter other (x ∷ []))
    ∙ ap (λ ys. filter test (filter other (take i xs)) ++ ys) (one_passes test other x b e)

abbrev rest : {D : Type 0} → List D → List D
rest [] = []
rest (z ∷ zs) = zs

-- things with the same names, of which the same flags are set
pub same_kept : {A B C : Type 0} (name : A → C) (test : A → Bool) (other_name : B → C) (other : B → Bool) (xs : List A) (ys : List B) → map name xs ≡ map other_name ys → map test xs ≡ map other ys
    → map name (filter test xs) ≡ map other_name (filter other ys)
same_kept name test other_name other [] [] e f = refl
same_kept name test other_name other [] (y ∷ ys) e f = absurd (let h = ap length e in omega (arith, h))
same_kept name test other_name other (x ∷ xs) [] e f = absurd (let h = ap length e in omega (arith, h))
same_kept name test other_name other (x ∷ xs) (y ∷ ys) e f = go (same_kept name test other_name other xs ys (ap rest e) (ap rest f)) (other y) refl
  where
    names : name x ≡ other_name y
    names = ap (λ l. get_or l 0 (name x)) e

    flags : test x ≡ other y
    flags = ap (λ l. get_or l 0 false) f

    go : map name (filter test xs) ≡ map other_name (filter other ys) → (b : Bool) → other y ≡ b → map name (filter test (x ∷ xs)) ≡ map other_name (filter other (y ∷ ys))
    go more true h = rw (flags ∙ h) (rw h (λ i. names i ∷ more i))
    go more false h = rw (flags ∙ h) (rw h more)

-- all places have the same flag
pub same_flags : (xs ys : List Bool) → length xs ≡ length ys → ((i : ℕ) → i < length xs → get_or xs i false ≡ get_or ys i false) → xs ≡ ys
same_flags xs ys e f = ext_get_or false xs ys e f

-- what holds where a flag is set, with one more flag
pub one_more_flag : (P : ℕ → Type 0) (flags : List Bool) (b : Bool) → ((i : ℕ) → get_or flags i false ≡ true → P i) → (b ≡ true → P (length flags)) → (i : ℕ) → get_or (flags ++ b ∷ []) i false ≡ true → P i
one_more_flag P [] b had last zero e = last e
one_more_flag P [] b had last (suc i) e = absurd (true≢false (sym e))
one_more_flag P (flag ∷ flags) b had last zero e = had zero e
one_more_flag P (flag ∷ flags) b had last (suc i) e = one_more_flag (λ j. P (suc j)) flags b (λ j. had (suc j)) last i e

-- the thing at a place, whatever stands for none
pub value_at : {A : Type 0} (xs : List A) (i : ℕ) (x d : A) → i < length xs → x ≡ get_or xs i x → get_or xs i d ≡ x
value_at xs i x d below is = get_or_default xs i d x below ∙ sym is

-- the names of one more thing
names_to : {A C : Type 0} (name : A → C) (xs : List A) (i : ℕ) (x : A) → i < length xs → x ≡ get_or xs i x → map name (take (i + 1) xs) ≡ map name (take i xs) ++ name x ∷ []
names_to name xs i x below is =
    ap (λ n. map name (take n xs)) (add-one i) ∙ ap (map name) (take-suc xs i x below ∙ ap (λ y. take i xs ++ y ∷ []) (sym is))
    ∙ map-append name (take i xs) (x ∷ [])

pub more_names : {A C : Type 0} (name : A → C) (xs ys : List A) (i : ℕ) (x y : A) → i < length xs → i < length ys → x ≡ get_or xs i x → y ≡ get_or ys i y → map name (take i xs) ≡ map name (take i ys) → name x ≡ name y
    → map name (take (i + 1) xs) ≡ map name (take (i + 1) ys)
more_names name xs ys i x y below below_too is is_too so_far same = names_to name xs i x below is ∙ (λ j. so_far j ++ same j ∷ []) ∙ sym (names_to name ys i y below_too is_too)

-- lists that are the same at each place
pub equal_lists : {A : Type 0} (same : A → A → Bool) → ((x y : A) → same x y ≡ true → x ≡ y) → (xs ys : List A) → pointwise same xs ys ≡ true → xs ≡ ys
equal_lists same is [] [] e = refl
equal_lists same is [] (y ∷ ys) e = absurd (true≢false (sym e))
equal_lists same is (x ∷ xs) [] e = absurd (true≢false (sym e))
equal_lists same is (x ∷ xs) (y ∷ ys) e =
    let both = and_parts (same x y) (pointwise same xs ys) e in
    let head = is x y both.0 in
    let tail = equal_lists same is xs ys both.1 in
    λ i. head i ∷ tail i

pub equal_flags : (a b : Bool) → beq a b ≡ true → a ≡ b
equal_flags true true e = refl
equal_flags true false e = absurd (true≢false (sym e))
equal_flags false true e = absurd (true≢false (sym e))
equal_flags false false e = refl

pub not_false : (b : Bool) → not b ≡ false → b ≡ true
not_false true e = refl
not_false false e = absurd (true≢false e)
