-- A line that is too long, and what is held of it.
use Rattle.std.proofs.Common.{◌≡◌, ℕ, ◌+◌, ◌<◌, ◌≤◌, true, false, nat_eq, cond, List, [], ◌∷◌, length, Err, ap, arith, ◌⊎◌, inl, inr}
use Rattle.std.proofs.lemmas.Bool.{cases_lt, lt-ltb}
use Rattle.std.specs.List.{list_all}
use Rattle.mst_lang.specs.Lines.{drop_cr}
use Rattle.mst_lang.specs.Reading.{reading_as, worded}
use Rattle.mst_lang.specs.Words.{words, is_plain}
use Rattle.mst_lang.specs.declared.line.Fault.TheVariants.{E01}
use Rattle.mst_lang.specs.declared.line.Version.{Version}
use Rattle.mst_io.proofs.Starts.{IsHeld}

-- dropping a carriage return shortens by one at most
length-drop_cr : (line : List ℕ) → length line ≤ length (drop_cr line) + 1
length-drop_cr [] = omega arith
length-drop_cr (b ∷ []) = elim (nat_eq b 13) as (λ t. 1 ≤ length (cond t [] (b ∷ [])) + 1) [ true ↦ omega arith | false ↦ omega arith ]
length-drop_cr (b ∷ c ∷ bs) = omega (arith, length-drop_cr (c ∷ bs))

-- what is held of a line is whole, or too long as the line is
pub held_cases : (part held : List ℕ) → IsHeld part held → (held ≡ part) ⊎ ((4096 < length (drop_cr held)) × (4096 < length (drop_cr part)))
held_cases part held is =
    elim (cases_lt 4098 (length part)) [
      | inl long ↦ inr (omega (arith, length-drop_cr held, is.long long), omega (arith, length-drop_cr part, long))
      | inr short ↦ inl (is.short short)
    ]

-- a line that is too long isn't read in any version, and says none
pub long_reading : (version : Version) (line : List ℕ) → 4096 < length line → reading_as version line ≡ Err E01
long_reading version line long = ap (λ t. cond t (Err E01) (worded version (list_all is_plain line) (words line))) (lt-ltb 4096 (length line) long)

pub none_held_of : (b : ℕ) (bs : List ℕ) → IsHeld (b ∷ bs) [] → ⊥
none_held_of b bs is =
    elim (cases_lt 4098 (length (b ∷ bs))) [
      | inl long ↦ let e : 0 ≡ 4098 = is.long long in omega (arith, e)
      | inr short ↦ let e : [] ≡ b ∷ bs = is.short short in cc
    ]

pub one_held_of : (c : ℕ) (cs : List ℕ) → IsHeld [] (c ∷ cs) → ⊥
one_held_of c cs is = let e : c ∷ cs ≡ [] = is.short (omega arith) in cc
