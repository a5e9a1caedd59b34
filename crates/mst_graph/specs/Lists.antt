-- What lists have.
use Rattle.std.specs.Prelude.{Bool, true, false, List, [], ◌∷◌, ◌++◌, fold, if◌then◌else◌}
use Rattle.std.specs.List.{list_any}

-- there is something in a list
abbrev pub has_any : {A : Type 0} → List A → Bool
has_any [] = false
has_any (x ∷ xs) = true

-- each once, in the order in which they come first: one more goes behind those before, unless it is among them
abbrev pub with_new : {A : Type 0} → (A → A → Bool) → List A → A → List A
with_new same kept x = if list_any (λ y. same y x) kept then kept else kept ++ x ∷ []

abbrev pub each_once : {A : Type 0} → (A → A → Bool) → List A → List A
each_once same xs = fold (with_new same) [] xs
