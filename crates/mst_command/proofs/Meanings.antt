-- What a word was meant for, of those behind the program's name.
use Rattle.std.proofs.Common.{◌≡◌, ◌<◌, ◌-◌, ℕ, List, [], ◌∷◌, arith, drop, take, map, length, get_or, Option, Some, None, IfSome, String, string_bytes, refl, sym, ap, subst, ◌∙◌, inr, take_all}
use Rattle.std.specs.Borrow.{Bor}
use Rattle.std.specs.List.{Contains}
use Rattle.std.specs.declared.alloc.Global.{Global}
use Rattle.std.proofs.lemmas.List.{length-drop}
use Rattle.std.proofs.lemmas.List.Elements.{Contains-get_or}
use Rattle.mst_command.specs.Strays.{IsStray, meant_by}
use Rattle.mst_command.specs.Words.{IsMeant}
use Rattle.mst_command.specs.declared.strays.Stray.{Stray}

-- a word that was meant for another one
pub as_meant : (IsThere : List ℕ → Type 0) (words : List (List ℕ)) (found : Option Stray) → IfSome found (λ stray. IsStray words stray.word.now stray.meant) → IfSome found (λ stray. IsMeant IsThere words stray.word.now stray.meant)
as_meant IsThere words None stray = tt
as_meant IsThere words (Some found) stray = inr stray

-- the words behind the first, as texts
drop_first : (words : List (String Global)) → map string_bytes (drop 1 words) ≡ drop 1 (map string_bytes words)
drop_first [] = refl
drop_first (word ∷ words) = refl

pub behind_first : (words : List (String Global)) → map string_bytes (take (length words - 1) (drop 1 words)) ≡ drop 1 (map string_bytes words)
behind_first words = ap (map string_bytes) (take_all (length words - 1) (drop 1 words) (omega (arith, length-drop 1 words))) ∙ drop_first words

-- words that there are begin with the first
pub first_word : (words : List (String Global)) (d : String Global) → 0 < length words → map string_bytes words ≡ string_bytes (get_or words 0 d) ∷ map string_bytes (drop 1 words)
first_word [] d h = absurd (omega arith)
first_word (word ∷ words) d h = refl

-- what is known of the first
pub first_is : (all : List (List ℕ)) (word : Bor (List ℕ)) (found : Option Stray) (behind : List (List ℕ)) → all ≡ word.now ∷ behind
    → IfSome found (λ stray. stray.word ≡ word) → IfSome found (λ stray. meant_by word.now ≡ Some stray.meant) → IfSome found (λ stray. IsStray all stray.word.now stray.meant)
first_is all word None behind is same meant = tt
first_is all word (Some stray) behind is same meant = subst (λ (w : Bor (List ℕ)). IsStray all w.now stray.meant) (sym same) (record {
  among = subst (λ words. Contains words word.now) (sym is) (Contains-get_or (word.now ∷ behind) 0 word.now (omega arith));
  first = λ h. (behind, is);
  is_meant = meant;
})
