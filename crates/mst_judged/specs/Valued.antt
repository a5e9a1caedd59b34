-- Values of VIDs, as they are kept for classes of VIDs. Where none is kept there is another one, which stands for it.
use Rattle.std.specs.Prelude.{◌≡◌, ℕ, ◌+◌, ◌-◌, ◌<◌, Bool, true, false, List, length, slice_index, slice_index_or}

-- for each class with a flag, a value of its first VID
abbrev pub AreValuesOf : {B : Type 0} → B → (ℕ → B → Type 0) → List ℕ → List Bool → List B → Type 0
AreValuesOf none Has firsts flags values =
    (class : ℕ) → class < length firsts → slice_index_or flags class false ≡ true → Has (slice_index firsts class + 1) (slice_index_or values class none)

-- the value that is kept for the class of a VID
abbrev pub value_at : {B : Type 0} → B → List ℕ → List B → ℕ → B
value_at none numbers values vid = slice_index_or values (slice_index numbers (vid - 1)) none
