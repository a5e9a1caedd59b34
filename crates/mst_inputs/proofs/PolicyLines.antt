-- The lines of a policy that were read, as its bytes came.
use Rattle.std.proofs.Common.{◌≡◌, ℕ, ◌+◌, ◌<◌, ◌≤◌, ◌^◌, true, false, nat_eq, cond, List, [], ◌∷◌, ◌++◌, length, length-append, Result, Ok, Err, Option, None, Some, refl, sym, ap, ◌∙◌, inl, inr, arith, append_assoc, append-nil}
use Rattle.std.proofs.lemmas.Bool.{lt-ltb}
use Rattle.std.specs.List.{list_all}
use Rattle.mst_lang.specs.Words.{is_plain, words}
use Rattle.mst_io.specs.Held.{hold, lines_held}
use Rattle.mst_io.proofs.Long.{held_cases, none_held_of, one_held_of}
use Rattle.mst_io.proofs.Starts.{IsHeld, IsHeld-nothing, IsHeld-push}
use Rattle.mst_lang.specs.Lines.{drop_cr, last_line, lines_from}
use Rattle.mst_lang.specs.declared.line.Fault.{Fault}
use Rattle.mst_lang.specs.declared.line.Fault.TheVariants.{E01}
use Rattle.mst_policy.specs.Lines.{line_of, line_read, policy_from, spaced}
use Rattle.mst_policy.specs.Reading.{reading, worded}
use Rattle.mst_policy.specs.declared.policy.PolicyLine.{PolicyLine}
use Rattle.mst_policy.specs.declared.risk.Said.{Said}
use Rattle.mst_inputs.specs.Lines.{AreLines, AreTaken, policy_with}

-- ---- a line
pub policy_takes : (old new : List PolicyLine) (n : ℕ) (line : List ℕ) → new ≡ old ++ line_of n line → (others : List (List ℕ)) → policy_with new (n + 1) others ≡ policy_with old n (line ∷ others)
policy_takes old new n line more others = ap (λ l. l ++ policy_from (n + 1) others) more ∙ append_assoc old (line_of n line) (policy_from (n + 1) others)

-- ---- it is enough to hold a part of a line that is too long
long_says : (line : List ℕ) → 4096 < length line → reading line ≡ Err E01
long_says line long = ap (λ t. cond t (Err E01) (worded (list_all is_plain line) (words line))) (lt-ltb 4096 (length line) long)

held_says : (n : ℕ) (part held : List ℕ) → IsHeld part held → line_of n (drop_cr held) ≡ line_of n (drop_cr part)
held_says n part held is =
    elim (held_cases part held is) [
      | inl same ↦ ap (λ l. line_of n (drop_cr l)) same
      | inr long ↦ ap (line_read n (spaced (words (drop_cr held)))) (long_says (drop_cr held) long.0) ∙ sym (ap (line_read n (spaced (words (drop_cr part)))) (long_says (drop_cr part) long.1))
    ]

last_says : (n : ℕ) (part held : List ℕ) → IsHeld part held → policy_from n (last_line held) ≡ policy_from n (last_line part)
last_says n [] [] is = refl
last_says n [] (c ∷ cs) is = absurd (one_held_of c cs is)
last_says n (b ∷ bs) [] is = absurd (none_held_of b bs is)
last_says n (b ∷ bs) (c ∷ cs) is = ap (λ l. l ++ []) (held_says n (b ∷ bs) (c ∷ cs) is)

policy_held : (bytes part held : List ℕ) (n : ℕ) → IsHeld part held → policy_from n (lines_held last_line held bytes) ≡ policy_from n (lines_from last_line part bytes)
policy_held [] part held n is = last_says n part held is
policy_held (b ∷ bs) part held n is =
    elim (nat_eq b 10) as (λ t. policy_from n (cond t (drop_cr held ∷ lines_held last_line [] bs) (lines_held last_line (hold held b) bs)) ≡ policy_from n (cond t (drop_cr part ∷ lines_from last_line [] bs) (lines_from last_line (part ++ b ∷ []) bs))) [
      | true ↦ λ i. held_says n part held is i ++ policy_held bs [] [] (n + 1) IsHeld-nothing i
      | false ↦ policy_held bs (part ++ b ∷ []) (hold held b) n (IsHeld-push part held b is)
    ]

-- ---- how many there are
read_short : (n : ℕ) (text : List ℕ) (read : Result (Option Said) Fault) → length (line_read n text read) ≤ 1
read_short n text (Ok None) = omega arith
read_short n text (Ok (Some said)) = omega arith
read_short n text (Err fault) = omega arith

policy_short : (n : ℕ) (lines : List (List ℕ)) → length (policy_from n lines) ≤ length lines
policy_short n [] = omega arith
policy_short n (line ∷ lines) = omega (arith, length-append (line_of n line) (policy_from (n + 1) lines), read_short n (spaced (words line)) (reading line), policy_short (n + 1) lines)

-- ---- so they are the lines of the policy
module _ (begun : List PolicyLine) (reads : Option (List ℕ)) (policy : List PolicyLine) (none : begun ≡ []) (taken : AreTaken policy_with begun reads policy) where
  policy_from_held : policy ≡ policy_from 1 (lines_held last_line [] taken.bytes)
  policy_from_held = sym (append-nil policy) ∙ taken.comes ∙ ap (λ l. l ++ policy_from 1 (lines_held last_line [] taken.bytes)) none

  pub are_lines : AreLines reads policy
  are_lines = (taken.bytes, taken.read, policy_from_held ∙ policy_held taken.bytes [] [] 1 IsHeld-nothing)

  pub few_lines : length policy < 2 ^ 60
  few_lines = omega (arith, ap length policy_from_held, policy_short 1 (lines_held last_line [] taken.bytes), taken.few)
