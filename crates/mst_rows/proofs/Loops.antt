-- Loops that put rows: over a slice, and over a slice with something that is left.
use Rattle.std.proofs.Common.{◌≡◌, ◌∙◌, ℕ, ◌+◌, ◌<◌, ◌≤◌, List, [], ◌∷◌, ◌++◌, length, take, drop, get_or, sym, ap, subst, append_assoc, arith}
use Rattle.std.proofs.lemmas.Grind.{common_steps}
use Rattle.std.proofs.lemmas.List.{at_drop_more, append-nil, drop_all, take_all}
use Rattle.std.specs.List.{flat_map}
use Rattle.mst_rows.specs.Rows.{Row}

-- the rows of the elements before a place, and those of the element there: `grown` is what a printer tells of its rows
flat_taken : {X : Type 0} (f : X → List Row) (xs : List X) (i : ℕ) (x : X) → i < length xs → x ≡ get_or xs i x → flat_map f (take i xs) ++ f x ≡ flat_map f (take (i + 1) xs)
flat_taken f xs i x below is = grind (arith, common_steps)

pub rows_more : {X : Type 0} (grown : List Row → Type 0) (f : X → List Row) (xs : List X) (i : ℕ) (x : X) (rows : List Row) → i < length xs → x ≡ get_or xs i x
    → grown ((rows ++ flat_map f (take i xs)) ++ f x) → grown (rows ++ flat_map f (take (i + 1) xs))
rows_more grown f xs i x rows below is h =
    subst grown (append_assoc rows (flat_map f (take i xs)) (f x) ∙ ap (λ (more : List Row). rows ++ more) (flat_taken f xs i x below is)) h

-- the rows of all elements, at the end
pub rows_all : {X : Type 0} (grown : List Row → Type 0) (f : X → List Row) (xs : List X) (i : ℕ) (rows : List Row) → length xs ≤ i → grown (rows ++ flat_map f (take i xs)) → grown (rows ++ flat_map f xs)
rows_all grown f xs i rows above h = subst (λ (ys : List _). grown (rows ++ flat_map f ys)) (take_all i xs above) h

-- ---- with a rest: `left xs s` are the rows of the elements that are left, where s is left beside them; the next
-- element gives `one x s`, and leaves `after x s`
pub rest_more : {A X S : Type 0} (left : List X → S → List A) (one : X → S → List A) (after : X → S → S) → ((x : X) (xs : List X) (s : S) → left (x ∷ xs) s ≡ one x s ++ left xs (after x s))
    → (xs : List X) (i : ℕ) (x : X) (s : S) (now all : List A) → i < length xs → x ≡ get_or xs i x → now ++ left (drop i xs) s ≡ all
    → (now ++ one x s) ++ left (drop (i + 1) xs) (after x s) ≡ all
rest_more left one after step xs i x s now all below is so_far =
    append_assoc now (one x s) (left (drop (i + 1) xs) (after x s))
    ∙ ap (λ (l : List _). now ++ l) (sym (step x (drop (i + 1) xs) s)
    ∙ ap (λ (y : _). left (y ∷ drop (i + 1) xs) s) is ∙ sym (at_drop_more (λ (l : List _). left l s) xs i x below))
    ∙ so_far

-- at the end nothing is left
pub rest_none : {A X S : Type 0} (left : List X → S → List A) → ((s : S) → left [] s ≡ []) → (xs : List X) (i : ℕ) (s : S) (now all : List A) → length xs ≤ i → now ++ left (drop i xs) s ≡ all → now ≡ all
rest_none left empty xs i s now all above so_far =
    sym (append-nil now) ∙ ap (λ (l : List _). now ++ l) (sym (empty s)) ∙ ap (λ (l : List _). now ++ left l s) (sym (drop_all i xs above)) ∙ so_far
