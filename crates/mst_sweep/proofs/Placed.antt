-- What holds of places and of what there is for them, one more of both at a time.
use Rattle.std.proofs.Common.{◌≡◌, ℕ, ◌+◌, ◌<◌, ◌≤◌, List, [], ◌∷◌, ◌++◌, length, take, get_or, sym, ap, subst, ◌∙◌}
use Rattle.std.proofs.lemmas.List.{take_all, take_more}
use Rattle.std.specs.List.{AllZip}

zip_pushed : {A B : Type 0} (R : A → B → Type 0) (xs : List A) (ys : List B) (x : A) (y : B) → AllZip R xs ys → R x y → AllZip R (xs ++ x ∷ []) (ys ++ y ∷ [])
zip_pushed R [] [] x y h r = (r, tt)
zip_pushed R [] (b ∷ ys) x y h r = absurd h
zip_pushed R (a ∷ xs) [] x y h r = absurd h
zip_pushed R (a ∷ xs) (b ∷ ys) x y h r = (h.0, zip_pushed R xs ys x y h.1 r)

-- of any relation of VIDs and what there is of them
module _ {B : Type 0} (R : ℕ → B → Type 0) where
  abbrev pub AtPlaces : List ℕ → List B → Type 0
  AtPlaces = AllZip (λ place body. R (place + 1) body)

  pub places_more : (places : List ℕ) (i place vid : ℕ) → i < length places → place ≡ get_or places i 0 → vid ≡ place + 1 → (bodies : List B) (body : B) → AtPlaces (take i places) bodies
      → R vid body → AtPlaces (take (i + 1) places) (bodies ++ body ∷ [])
  places_more places i place vid l is vid_is bodies body are body_is =
      subst (λ ps. AtPlaces ps (bodies ++ body ∷ [])) (sym (take_more places i 0 l))
      (zip_pushed (λ place body. R (place + 1) body) (take i places) bodies (get_or places i 0) body are (subst (λ vid. R vid body) (vid_is ∙ ap (λ p. p + 1) is) body_is))

  pub places_all : (places : List ℕ) (i : ℕ) → length places ≤ i → (bodies : List B) → AtPlaces (take i places) bodies → AtPlaces places bodies
  places_all places i l bodies are = subst (λ ps. AtPlaces ps bodies) (take_all i places l) are
