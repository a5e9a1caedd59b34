-- The hints of what was complete in what was read are a front of all hints.
use Rattle.std.proofs.Common.{◌≡◌, ℕ, ◌==◌, Bool, true, false, List, [], ◌∷◌, ◌++◌, Option, Some, None, refl, sym, ap, ◌∙◌, append_assoc}
use Rattle.std.specs.Prelude.{if◌then◌else◌}
use Rattle.std.specs.Io.KnownBytes.{Consumes}
use Rattle.mst_io.specs.Written.{Reads}
use Rattle.mst_hinting.specs.Lines.{Before, hint_after, hints_from, hints_of, nothing, past_after}
use Rattle.mst_lang.specs.Lines.{drop_cr, ended_lines, last_line, lines_from, no_line}
use Rattle.mst_hints.specs.declared.whose.Script.{Script}
use Rattle.mst_hinting.specs.Hinted.{HintsEnded, HintsFront}

-- the hints of the complete lines are a front of all
abbrev Begun : Before → List ℕ → List ℕ → List ℕ → Type 0
Begun past part bytes more = (rest : List ℕ) × (hints_from past (lines_from last_line part (bytes ++ more)) ≡ hints_from past (lines_from no_line part bytes) ++ rest)

-- in each case of the next byte
begun_by : (past : Before) (part bytes more : List ℕ) (b : ℕ) → ((now : Before) (left : List ℕ) → Begun now left bytes more) → Begun past part (b ∷ bytes) more
begun_by past part bytes more b later = go (b == 10)
  where
    all : Bool → List ℕ
    all x = hints_from past (if x then drop_cr part ∷ lines_from last_line [] (bytes ++ more) else lines_from last_line (part ++ b ∷ []) (bytes ++ more))

    complete : Bool → List ℕ
    complete x = hints_from past (if x then drop_cr part ∷ lines_from no_line [] bytes else lines_from no_line (part ++ b ∷ []) bytes)

    go : (x : Bool) → (rest : List ℕ) × (all x ≡ complete x ++ rest)
    go true =
        let now = past_after past (drop_cr part) in
        let hint = hint_after past (drop_cr part) in
        let begun = later now [] in
        (begun.0, ap (λ l. hint ++ l) begun.1 ∙ sym (append_assoc hint (hints_from now (lines_from no_line [] bytes)) begun.0))
    go false = later past (part ++ b ∷ [])

lines_begun : (bytes more : List ℕ) (past : Before) (part : List ℕ) → Begun past part bytes more
lines_begun [] more past part = (hints_from past (lines_from last_line part more), refl)
lines_begun (b ∷ bytes) more past part = begun_by past part bytes more b (λ now left. lines_begun bytes more now left)

-- what is left of an input that was read so far
rest_of : (reads left : Option (List ℕ)) (read : List ℕ) → Consumes reads left read → (more : List ℕ) × Reads reads (read ++ more)
rest_of None left read consumed = ([], tt)
rest_of (Some bytes) None read consumed = absurd consumed
rest_of (Some bytes) (Some more) read consumed = (more, consumed)

pub ended_front : (of : Script) (reads left a b : Option (List ℕ)) → HintsEnded of reads left a b → HintsFront of reads a b
ended_front of reads left a b h =
    let more = rest_of reads left h.read h.consumed in
    let begun = lines_begun h.read more.0 (nothing of) [] in
    record {
      script = h.read ++ more.0;
      read = more.1;
      printed = record { front = hints_of of (ended_lines h.read); rest = begun.0; whole = begun.1; written = h.printed };
    }
