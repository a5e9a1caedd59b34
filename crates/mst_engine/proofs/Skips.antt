-- That a line is skipped by how it begins.
use Rattle.std.proofs.Common.{◌≡◌, ℕ, Bool, true, false, nat_eq, cond, Some, List, [], ◌∷◌, refl, sym, ap}
use Rattle.std.specs.Prelude.{◌||◌, not}
use Rattle.std.specs.Option.{option_map_or}
use Rattle.std.specs.List.{find}
use Rattle.mst_lang.specs.Lines.{drop_cr}
use Rattle.mst_lang.specs.Words.{is_blank}
use Rattle.mst_engine.specs.Captures.{is_skipped}
use Rattle.mst_io.proofs.Starts.{start_of}

-- a line that begins so, without its carriage return
abbrev pub skips : List ℕ → Bool
skips [] = true
skips (b ∷ []) = nat_eq b 13 || nat_eq b 35
skips (b ∷ c ∷ bs) = nat_eq b 35

skips_cr : (b : ℕ) (t : Bool) → nat_eq b 13 ≡ true → true ≡ skips (cond t [] (b ∷ []))
skips_cr b true e = refl
skips_cr b false e = sym (ap (λ c. c || nat_eq b 35) e)

skips_other : (b : ℕ) (t : Bool) → nat_eq b 13 ≡ false → option_map_or (λ x. nat_eq x 35) (cond (not t) (Some b) (find (λ x. not (is_blank x)) [])) true ≡ skips (cond t [] (b ∷ []))
skips_other b true e = refl
skips_other b false e = sym (ap (λ c. c || nat_eq b 35) e)

skips_one : (b : ℕ) (c : Bool) → nat_eq b 13 ≡ c → is_skipped (cond c [] (b ∷ [])) ≡ skips (start_of (b ∷ []))
skips_one b true e = skips_cr b (is_blank b) e
skips_one b false e = skips_other b (is_blank b) e

pub skips-start : (line : List ℕ) → is_skipped (drop_cr line) ≡ skips (start_of line)
skips-start [] = refl
skips-start (b ∷ []) = skips_one b (nat_eq b 13) refl
skips-start (b ∷ c ∷ bs) =
    elim (is_blank b) as (λ t. option_map_or (λ x. nat_eq x 35) (cond (not t) (Some b) (find (λ x. not (is_blank x)) (drop_cr (c ∷ bs)))) true ≡ skips (cond t (start_of (c ∷ bs)) (b ∷ c ∷ []))) [
      | true ↦ skips-start (c ∷ bs)
      | false ↦ refl
    ]
