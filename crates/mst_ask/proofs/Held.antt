-- That it is enough to hold a part of a question that is too long.
use Rattle.std.proofs.Common.{◌≡◌, ℕ, ◌<◌, true, false, nat_eq, cond, List, [], ◌∷◌, ◌++◌, length, Err, refl, sym, subst, ◌⊎◌, inl, inr}
use Rattle.std.proofs.lemmas.Bool.{lt-ltb}
use Rattle.mst_lang.specs.Lines.{drop_cr, last_line, no_line, lines_from, lines_of, ended_lines}
use Rattle.mst_lang.specs.declared.line.Fault.TheVariants.{E01}
use Rattle.mst_lang.specs.declared.line.Version.{Version}
use Rattle.mst_io.specs.Held.{hold, lines_held}
use Rattle.mst_io.proofs.Long.{held_cases, none_held_of, one_held_of}
use Rattle.mst_io.proofs.Starts.{IsHeld, IsHeld-nothing, IsHeld-push}
use Rattle.mst_questions.specs.tool.engine.print.declared.form.Form.{Form}
use Rattle.mst_ask.specs.Requests.{request_of}
use Rattle.mst_ask.specs.Standing.{Standing, Turn, Asks, AsksBy, AsksLine}
use Rattle.mst_ask.proofs.Turns.{asks_alike}

-- a question that is too long isn't read
long_asked : (version : Version) (line : List ℕ) → 4096 < length line → request_of version line ≡ Err E01
long_asked version line long = rw (lt-ltb 4096 (length line) long) refl

module _ (form : Form) (version : Version) where
  -- so it does the same where it is held
  held_alike : (number : ℕ) (now : Standing) (part held : List ℕ) (t : Turn) → IsHeld part held → AsksLine form version number now (drop_cr held) t → AsksLine form version number now (drop_cr part) t
  held_alike number now part held t is h = by (held_cases part held is)
    where
      by : (held ≡ part) ⊎ ((4096 < length (drop_cr held)) × (4096 < length (drop_cr part))) → AsksLine form version number now (drop_cr part) t
      by (inl same) = subst (λ l. AsksLine form version number now (drop_cr l) t) same h
      by (inr long) =
          let unread : Asks form number now (drop_cr held) (Err E01) t = subst (λ r. Asks form number now (drop_cr held) r t) (long_asked version (drop_cr held) long.0) h in
          subst (λ r. Asks form number now (drop_cr part) r t) (sym (long_asked version (drop_cr part) long.1)) unread

  -- the line that is left, and where none counts
  last_held : (part held : List ℕ) (n : ℕ) (now : Standing) (turns : List Turn) → IsHeld part held → AsksBy form version n now (last_line held) turns → AsksBy form version n now (last_line part) turns
  last_held [] [] n now turns is h = h
  last_held [] (c ∷ cs) n now turns is h = absurd (one_held_of c cs is)
  last_held (b ∷ bs) [] n now turns is h = absurd (none_held_of b bs is)
  last_held (b ∷ bs) (c ∷ cs) n now turns is h = asks_alike form version n now (drop_cr (c ∷ cs)) (drop_cr (b ∷ bs)) [] [] turns (λ t. held_alike n now (b ∷ bs) (c ∷ cs) t is) (λ n now turns h. h) h

  none_held : (part held : List ℕ) (n : ℕ) (now : Standing) (turns : List Turn) → IsHeld part held → AsksBy form version n now (no_line held) turns → AsksBy form version n now (no_line part) turns
  none_held part held n now turns is h = h

  module _ (last : List ℕ → List (List ℕ)) (left_held : (part held : List ℕ) (n : ℕ) (now : Standing) (turns : List Turn) → IsHeld part held → AsksBy form version n now (last held) turns → AsksBy form version n now (last part) turns) where
    turns_held : (bytes part held : List ℕ) (n : ℕ) (now : Standing) (turns : List Turn) → IsHeld part held → AsksBy form version n now (lines_held last held bytes) turns → AsksBy form version n now (lines_from last part bytes) turns
    turns_held [] part held n now turns is h = left_held part held n now turns is h
    turns_held (b ∷ bs) part held n now turns is h =
        elim (nat_eq b 10) as (λ t. AsksBy form version n now (cond t (drop_cr held ∷ lines_held last [] bs) (lines_held last (hold held b) bs)) turns
        → AsksBy form version n now (cond t (drop_cr part ∷ lines_from last [] bs) (lines_from last (part ++ b ∷ []) bs)) turns) [
          | true ↦ λ h. asks_alike form version n now (drop_cr held) (drop_cr part) (lines_held last [] bs) (lines_from last [] bs) turns (λ t. held_alike n now part held t is) (λ n now turns h. turns_held bs [] [] n now turns IsHeld-nothing h) h
          | false ↦ λ h. turns_held bs (part ++ b ∷ []) (hold held b) n now turns (IsHeld-push part held b is) h
        ] h

  -- so all lines that are held do what those of the questions do, and those that are complete so far
  pub whole_held : (bytes : List ℕ) (now : Standing) (turns : List Turn) → AsksBy form version 1 now (lines_held last_line [] bytes) turns → AsksBy form version 1 now (lines_of bytes) turns
  whole_held bytes now turns h = turns_held last_line last_held bytes [] [] 1 now turns IsHeld-nothing h

  pub ended_held : (read : List ℕ) (now : Standing) (turns : List Turn) → AsksBy form version 1 now (lines_held no_line [] read) turns → AsksBy form version 1 now (ended_lines read) turns
  ended_held read now turns h = turns_held no_line none_held read [] [] 1 now turns IsHeld-nothing h
