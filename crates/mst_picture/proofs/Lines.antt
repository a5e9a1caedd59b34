-- Lines of pieces, of which some are appended together.
use Rattle.std.proofs.Common.{◌≡◌, ℕ, ◌+◌, ◌<◌, List, [], ◌∷◌, ◌++◌, length, take, get_or, sym, ap, ◌∙◌, append_assoc, append-nil}
use Rattle.std.specs.List.{flat_map}
use Rattle.std.proofs.lemmas.Grind.{flat_map-append}
use Rattle.std.proofs.lemmas.List.{take_more}
use Rattle.mst_picture.specs.Pieces.{joined}

two_behind : (out first a b : List ℕ) → ((out ++ first) ++ a) ++ b ≡ out ++ (first ++ (a ++ (b ++ [])))
two_behind out first a b = simp (append_assoc, append-nil)

-- pieces, and two more
pub and_two : (out : List ℕ) (first : List (List ℕ)) (a b : List ℕ) → ((out ++ joined first) ++ a) ++ b ≡ out ++ joined (first ++ a ∷ b ∷ [])
and_two out first a b = two_behind out (joined first) a b ∙ ap (λ t. out ++ t) (sym (flat_map-append (λ (piece : List ℕ). piece) first (a ∷ b ∷ [])))

four_behind : (out first a b c d : List ℕ) → ((((out ++ first) ++ a) ++ b) ++ c) ++ d ≡ out ++ (first ++ (a ++ (b ++ (c ++ (d ++ [])))))
four_behind out first a b c d = simp (append_assoc, append-nil)

-- and four more
pub and_four : (out : List ℕ) (first : List (List ℕ)) (a b c d : List ℕ) → ((((out ++ joined first) ++ a) ++ b) ++ c) ++ d ≡ out ++ joined (first ++ a ∷ b ∷ c ∷ d ∷ [])
and_four out first a b c d =
    four_behind out (joined first) a b c d ∙ ap (λ t. out ++ t) (sym (flat_map-append (λ (piece : List ℕ). piece) first (a ∷ b ∷ c ∷ d ∷ [])))

-- ---- the text of one more thing was appended
pub text_more : {A : Type 0} (f : A → List ℕ) (xs : List A) (i : ℕ) (x : A) → i < length xs → x ≡ get_or xs i x → (first old new : List ℕ) → old ≡ first ++ flat_map f (take i xs) → new ≡ old ++ f x
    → new ≡ first ++ flat_map f (take (i + 1) xs)
text_more f xs i x l is first old new e h =
    h ∙ ap (λ t. t ++ f x) e ∙ append_assoc first (flat_map f (take i xs)) (f x)
    ∙ ap (λ t. first ++ t) (sym (ap (flat_map f) (take_more xs i x l) ∙ flat_map-append f (take i xs) (get_or xs i x ∷ []) ∙ ap (λ t. flat_map f (take i xs) ++ t) (append-nil (f (get_or xs i x)) ∙ ap f (sym is))))
