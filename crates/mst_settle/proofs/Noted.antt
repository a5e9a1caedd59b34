-- The ports of one wiring that another hasn't, as their numbers are noted.
use Rattle.std.proofs.Common.{◌≡◌, ℕ, ◌+◌, ◌<◌, List, [], ◌∷◌, ◌++◌, length, get_or, take, inl, inr, ◌⊎◌}
use Rattle.std.specs.List.{Contains, All}
use Rattle.std.proofs.lemmas.List.Elements.{Contains-append_left, Contains-push}
use Rattle.mst_topology.specs.Topology.{TreePort}
use Rattle.mst_settle.specs.Differences.{NotesMissing, CoversDifferences}
use Rattle.mst_settle.proofs.Marked.{all_more}

-- it is in the other wiring, or its number is noted
abbrev pub IsNoted : {P : Type 0} → List (TreePort ℕ ℕ ℕ P) → List ℕ → TreePort ℕ ℕ ℕ P → Type 0
IsNoted there numbers p = Contains there p ⊎ Contains numbers p.number

module _ {P : Type 0} (here there : List (TreePort ℕ ℕ ℕ P)) (numbers : List ℕ) (i : ℕ) (p : TreePort ℕ ℕ ℕ P) (low : i < length here) (is : p ≡ get_or here i p) (before : All (IsNoted there numbers) (take i here)) where
  pub found_more : Contains there p → All (IsNoted there numbers) (take (i + 1) here)
  found_more c = all_more (IsNoted there numbers) (IsNoted there numbers) here i p low is (λ q h. h) before (inl c)

  pub noted_more : All (IsNoted there (numbers ++ p.number ∷ [])) (take (i + 1) here)
  noted_more = all_more (IsNoted there numbers) (IsNoted there (numbers ++ p.number ∷ [])) here i p low is
      (λ q h. elim h [ inl c ↦ inl c | inr m ↦ inr (Contains-append_left numbers (p.number ∷ []) q.number m) ]) before (inr (Contains-push numbers p.number))

-- what either hasn't is noted
pub covered : {P : Type 0} (from to : List (TreePort ℕ ℕ ℕ P)) (a b c : List ℕ) → NotesMissing from to a b → NotesMissing to from b c → CoversDifferences from to c
covered from to a b c h i = record {
  gone = λ p w. elim (h.noted p w) [ inl t ↦ inl t | inr m ↦ inr (i.kept p.number m) ];
  come = i.noted;
}
