-- The lines of an input that were taken, one after another.
use Rattle.std.proofs.Common.{◌≡◌, ℕ, ◌+◌, Bool, true, false, List, [], ◌∷◌, ◌++◌, length, Option, refl, sym, ap, subst, ◌∙◌, arith, append-nil, inl, inr}
use Rattle.std.specs.Prelude.{◌⊎◌}
use Rattle.std.specs.Global.{Global}
use Rattle.std.specs.Io.KnownBytes.{Appends}
use Rattle.mst_drive.specs.Driving.{Driven, DrivenFront, DrivenOn}
use Rattle.mst_drive.specs.Words.{HasTold, Unwritten}
use Rattle.mst_io.specs.Devices.{HearsWhere, Seen}
use Rattle.mst_io.specs.Held.{lines_held}
use Rattle.mst_io.proofs.Chains.{Hears-as}
use Rattle.mst_io.specs.Written.{AppendsFront}
use Rattle.mst_lang.specs.Lines.{last_line}
use Rattle.mst_inputs.specs.Lines.{AreTaken, AwaitsCounted, EndsReading, TakesOn}
use Rattle.mst_inputs.specs.declared.lines.Reading.{Reading}

-- before the first line
abbrev pub begun : {L : Type 0} → Global → L → Reading L
begun alloc lines = record { alloc = alloc; lines = lines; count = 0; is_lost = false }

both_ways : (b : Bool) → b ≡ true → b ≡ false → ⊥
both_ways b p q = cc

module _ {L : Type 0} (with_lines : L → ℕ → List (List ℕ) → L) where
  -- a line that came where lines are lost
  pub takes_lost : (old new : Reading L) (number : ℕ) (line : List ℕ) → old.is_lost ≡ true → new.is_lost ≡ old.is_lost → new.count ≡ old.count + 1
      → (others : List (List ℕ)) (more : List ℕ) (after : Reading L) → TakesOn with_lines new (number + 1) others more after → TakesOn with_lines old number (line ∷ others) ([] ++ more) after
  takes_lost old new number line lost same counted others more after h = record {
    nothing = h.nothing;
    counted = omega (arith, h.counted, counted);
    taken = λ e. absurd (both_ways old.is_lost lost (sym same ∙ (h.taken e).0));
  }

  -- one that was taken, or lost
  pub takes_line : (old new : Reading L) (number : ℕ) (line : List ℕ) → old.is_lost ≡ false → new.count ≡ old.count + 1 → (new.is_lost ≡ false → (others : List (List ℕ)) → with_lines new.lines (number + 1) others ≡ with_lines old.lines number (line ∷ others))
      → (others : List (List ℕ)) (more : List ℕ) (after : Reading L) → TakesOn with_lines new (number + 1) others more after → TakesOn with_lines old number (line ∷ others) ([] ++ more) after
  takes_line old new number line kept counted takes others more after h = record {
    nothing = h.nothing;
    counted = omega (arith, h.counted, counted);
    taken = λ e. (kept, λ rest. ap (λ n. with_lines after.lines n rest) (omega arith) ∙ (h.taken e).1 rest ∙ takes (h.taken e).0 (others ++ rest));
  }

  pub takes_none : (old : Reading L) (number : ℕ) → TakesOn with_lines old number [] [] old
  takes_none old number = record { nothing = refl; counted = omega arith; taken = λ e. (e, λ rest. ap (λ n. with_lines old.lines n rest) (omega arith)) }

  -- whatever lines come, they may be lost
  pub takes_some : (old : Reading L) (number : ℕ) (lines : List (List ℕ)) → (text : List ℕ) × (after : Reading L) × TakesOn with_lines old number lines text after
  takes_some old number lines = ([], record old { count = old.count + length lines; is_lost = true }, record { nothing = refl; counted = refl; taken = λ e. absurd (both_ways true refl e) })

  module _ (old new : Reading L) (reads written now : Option (List ℕ)) where
    -- so all lines were taken
    pub all_taken : old.count ≡ 0 → Driven AwaitsCounted (TakesOn with_lines) EndsReading old new reads written now → AreTaken with_lines old.lines reads new.lines
    all_taken none d =
        let t = d.told in
        let taken = t.taken (d.ended).2 in
        record {
          bytes = d.bytes;
          read = d.read;
          few = omega (arith, d.few, d.waits, t.counted);
          number = 1 + length (lines_held last_line [] d.bytes);
          comes = ap (λ (r : Reading L). with_lines r.lines (1 + length (lines_held last_line [] d.bytes)) []) (d.ended).1 ∙ taken.1 [] ∙ ap (with_lines old.lines 1) (append-nil (lines_held last_line [] d.bytes));
        }

    -- and nothing was written
    pub unwritten : Driven AwaitsCounted (TakesOn with_lines) EndsReading old new reads written now → Appends written now []
    unwritten d = subst (Appends written now) (ap (λ s. d.text ++ s) (d.ended).0 ∙ append-nil d.text ∙ (d.told).nothing) d.printed

    nothing_front : (text : List ℕ) → text ≡ [] → AppendsFront written now text → Appends written now []
    nothing_front text none f = by f.front (sym none ∙ f.whole) f.written
      where
        by : (front : List ℕ) → [] ≡ front ++ f.rest → Appends written now front → Appends written now []
        by [] whole went = went
        by (b ∷ bs) whole went = absurd (cc)

    pub unwritten_front : DrivenFront (TakesOn with_lines) EndsReading old reads written now → Appends written now []
    unwritten_front d = by d.front
      where
        by : AppendsFront written now d.text ⊎ ((number : ℕ) × (said : List ℕ) × (after : Reading L) × EndsReading d.job number said after × AppendsFront written now (d.text ++ said)) → Appends written now []
        by (inl front) = nothing_front d.text (d.told).nothing front
        by (inr h) = nothing_front (d.text ++ h.1) (ap (λ s. d.text ++ s) (h.3).0 ∙ append-nil d.text ∙ (d.told).nothing) h.4

-- of lines that are taken nothing is told
pub none_told : {L S : Type 0} (does : S → S → List ℕ → Seen → Type 0) (remaining : S → Option (List ℕ)) (with_lines : L → ℕ → List (List ℕ) → L) (old : Reading L) (reads : Option (List ℕ)) (before : Seen) (from now : S)
    → HearsWhere does (DrivenOn (TakesOn with_lines) old reads remaining before) from now → HearsWhere does (HasTold Unwritten remaining before) from now
none_told does remaining with_lines old reads before from now calls =
    Hears-as does (DrivenOn (TakesOn with_lines) old reads remaining before) (HasTold Unwritten remaining before) (λ source sink h. (h.0, ((h.1).text, ((h.1).told).nothing, (h.1).printed))) from now calls
