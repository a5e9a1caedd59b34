-- A list whose elements are changed in place, one after another.
use Rattle.std.proofs.Common.{◌≡◌, ℕ, ◌+◌, ◌<◌, ◌≤◌, List, ◌++◌, length, map, take, drop, get_or, set, sym, ap, ◌∙◌}
use Rattle.std.proofs.lemmas.List.{append-nil, drop_all, length-append, length-map, set-get_or, take-append-drop, take_all}
use Rattle.std.proofs.lemmas.List.Edits.{map_over_more}

module _ {A : Type 0} (f : A → A) (xs ys : List A) (i : ℕ) (is : ys ≡ map f (take i xs) ++ drop i xs) where
  -- there are as many as before
  pub as_many : length ys ≡ length xs
  as_many =
      ap length is ∙ length-append (map f (take i xs)) (drop i xs) ∙ ap (λ n. n + length (drop i xs)) (length-map (take i xs) f)
      ∙ sym (length-append (take i xs) (drop i xs)) ∙ ap length (take-append-drop i xs)

  -- the next one needs no change
  pub stays : (x : A) → i < length xs → x ≡ get_or ys i x → f x ≡ x → ys ≡ map f (take (i + 1) xs) ++ drop (i + 1) xs
  stays x below here same = sym (set-get_or ys i x) ∙ ap (set ys i) (sym here ∙ sym same) ∙ map_over_more f xs ys i x below is here

  -- the next one is changed
  pub written : (x y : A) → i < length xs → x ≡ get_or ys i x → y ≡ f x → set ys i y ≡ map f (take (i + 1) xs) ++ drop (i + 1) xs
  written x y below here now = ap (set ys i) now ∙ map_over_more f xs ys i x below is here

  -- all are changed
  pub all_changed : length xs ≤ i → ys ≡ map f xs
  all_changed whole = is ∙ (λ j. map f (take_all i xs whole j) ++ drop_all i xs whole j) ∙ append-nil (map f xs)
