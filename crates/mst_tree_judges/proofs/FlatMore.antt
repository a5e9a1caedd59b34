-- Lists of what there is of each thing, one thing after the other.
use Rattle.std.proofs.Common.{◌≡◌, ℕ, ◌+◌, ◌<◌, ◌≤◌, List, [], ◌∷◌, ◌++◌, length, take, get_or, sym, ap, ◌∙◌}
use Rattle.std.specs.List.{flat_map}
use Rattle.std.proofs.lemmas.List.{append-nil, take_all, take_more}
use Rattle.std.proofs.lemmas.List.Concat.{flat_map-append}

module _ {A B : Type 0} (f : A → List B) (xs : List A) (i : ℕ) where
  pub flat_more : (x : A) → i < length xs → x ≡ get_or xs i x → (old new : List B) → old ≡ flat_map f (take i xs) → new ≡ old ++ f x → new ≡ flat_map f (take (i + 1) xs)
  flat_more x l is old new before after =
      after
      ∙ ap (λ ys. ys ++ f x) before
      ∙ ap (λ ys. flat_map f (take i xs) ++ ys) (sym (append-nil (f x)))
      ∙ sym (flat_map-append f (take i xs) (x ∷ []))
      ∙ ap (flat_map f) (ap (λ y. take i xs ++ y ∷ []) is ∙ sym (take_more xs i x l))

  pub flat_all : length xs ≤ i → (all : List B) → all ≡ flat_map f (take i xs) → all ≡ flat_map f xs
  flat_all l all e = e ∙ ap (flat_map f) (take_all i xs l)
