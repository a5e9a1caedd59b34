-- Loops that put a row for each element.
use Rattle.std.proofs.Common.{◌≡◌, ℕ, ◌+◌, ◌<◌, List, [], ◌∷◌, ◌++◌, map, length, take, get_or, ap, sym, subst, ◌∙◌, append_assoc}
use Rattle.std.proofs.lemmas.List.{map-append, take_more}
use Rattle.mst_rows.specs.Rows.{Row}

mapped_taken : {X : Type 0} (f : X → Row) (xs : List X) (i : ℕ) (x : X) → i < length xs → x ≡ get_or xs i x → map f (take i xs) ++ f x ∷ [] ≡ map f (take (i + 1) xs)
mapped_taken f xs i x below is =
    ap (λ y. map f (take i xs) ++ f y ∷ []) is ∙ sym (map-append f (take i xs) (get_or xs i x ∷ [])) ∙ ap (map f) (sym (take_more xs i x below))

-- the rows of the elements before a place, and that of the element there: `grown` is what a printer tells of its rows
pub mapped_more : {X : Type 0} (grown : List Row → Type 0) (f : X → Row) (xs : List X) (i : ℕ) (x : X) (rows : List Row) → i < length xs → x ≡ get_or xs i x
    → grown ((rows ++ map f (take i xs)) ++ f x ∷ []) → grown (rows ++ map f (take (i + 1) xs))
mapped_more grown f xs i x rows below is h =
    subst grown (append_assoc rows (map f (take i xs)) (f x ∷ []) ∙ ap (λ (more : List Row). rows ++ more) (mapped_taken f xs i x below is)) h
