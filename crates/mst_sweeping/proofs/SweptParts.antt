-- What is told of each part of a sweep.
use Rattle.std.proofs.Common.{List, [], ◌∷◌}
use Rattle.std.specs.List.{AllZip}

-- what follows place by place
pub each_zipped : {A B : Type 0} (R S : A → B → Type 0) → ((x : A) (y : B) → R x y → S x y) → (xs : List A) (ys : List B) → AllZip R xs ys → AllZip S xs ys
each_zipped R S f [] [] h = tt
each_zipped R S f [] (y ∷ ys) h = absurd h
each_zipped R S f (x ∷ xs) [] h = absurd h
each_zipped R S f (x ∷ xs) (y ∷ ys) h = (f x y h.0, each_zipped R S f xs ys h.1)
