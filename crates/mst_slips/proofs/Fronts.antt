-- A list by its front and the others.
use Rattle.std.proofs.Common.{◌≡◌, ◌-◌, ◌<◌, ◌≤◌, List, [], ◌∷◌, length, take, drop, get_or, sym, ap, ◌∙◌, length-drop, arith}
use Rattle.std.proofs.lemmas.List.{take_all, at_drop_more}

others_are : {A : Type 0} (xs : List A) → take (length xs - 1) (drop 1 xs) ≡ drop 1 xs
others_are xs = let l = length-drop 1 xs in take_all (length xs - 1) (drop 1 xs) (omega (arith, l))

pub in_front : {A B : Type 0} (f : List A → B) (xs : List A) (x : A) → 1 ≤ length xs → x ≡ get_or xs 0 x → f xs ≡ f (x ∷ take (length xs - 1) (drop 1 xs))
in_front f xs x below is = at_drop_more f xs 0 x below ∙ ap (λ y. f (y ∷ drop 1 xs)) (sym is) ∙ ap (λ ys. f (x ∷ ys)) (sym (others_are xs))

-- and one that has no others
pub alone : {A B : Type 0} (f : List A → B) (xs : List A) (x : A) → 1 ≤ length xs → length xs < 2 → x ≡ get_or xs 0 x → f (x ∷ []) ≡ f xs
alone f [] x low high is = absurd (omega arith)
alone f (y ∷ []) x low high is = ap (λ z. f (z ∷ [])) is
alone f (y ∷ z ∷ xs) x low high is = absurd (omega arith)
