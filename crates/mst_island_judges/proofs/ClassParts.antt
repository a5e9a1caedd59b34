-- The parts of classes of VIDs, one class at a time, and what is told of a group of VIDs by the parts of its first.
use Rattle.std.proofs.Common.{Vec, Global, ◌≡◌, ℕ, ◌+◌, ◌-◌, ◌<◌, ◌≤◌, Bool, true, false, List, [], ◌∷◌, ◌++◌, length, get_or, take, map, Some}
use Rattle.std.specs.Prelude.{slice_get}
use Rattle.mst_judged.specs.reasons.sweep.Cuts.{names_of, parts_at}
use Rattle.mst_judged.specs.Islands.{AreOfClasses}
use Rattle.mst_judged.specs.reasons.Reasons.{Parts, group_reasons}
use Rattle.mst_judged.specs.reasons.declared.reason.Reason.{Reason}
use Rattle.mst_judged.proofs.ClassValues as values

abbrev Kept : Type 0
Kept = Vec (Vec (List ℕ) Global) Global

-- what is told of a group that begins with a VID
pub begins : (tell : List ℕ → Parts → List Reason) (parts : ℕ → Parts) (group : List ℕ) (vid : ℕ) → Some vid ≡ slice_get group 0 → group_reasons tell parts group ≡ tell group (parts vid)
begins = values.begins

-- the parts of a VID's class
pub parts_read : (numbers : List ℕ) (bodies : List Kept) (vid n : ℕ) (body : Kept) → n ≡ get_or numbers (vid - 1) 0 → n < length bodies → body ≡ get_or bodies n body → parts_at numbers (map names_of bodies) vid ≡ names_of body
parts_read = values.value_read [] names_of

module _ (HasParts : ℕ → Parts → Type 0) (firsts : List ℕ) (flags : List Bool) where
  pub classes_more : (i : ℕ) (bodies : List Parts) (body : Parts) → i < length firsts → length bodies ≡ i → (get_or flags i false ≡ true → HasParts (get_or firsts i 0 + 1) body)
      → AreOfClasses HasParts (take i firsts) flags bodies → AreOfClasses HasParts (take (i + 1) firsts) flags (bodies ++ body ∷ [])
  classes_more = values.values_more [] HasParts firsts flags

  pub classes_all : (i : ℕ) (bodies : List Parts) → length firsts ≤ i → AreOfClasses HasParts (take i firsts) flags bodies → AreOfClasses HasParts firsts flags bodies
  classes_all = values.values_all [] HasParts firsts flags
