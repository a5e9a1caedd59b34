-- The rows of lines, the last one first.
use Rattle.std.proofs.Common.{◌≡◌, ◌∙◌, ◌++◌, ◌∷◌, [], ℕ, ◌+◌, ◌-◌, ◌<◌, ◌≤◌, List, Vec, drop, length, map, get_or, reverse, sym, ap, subst, arith, append_assoc}
use Rattle.std.specs.Global.{Global}
use Rattle.std.proofs.lemmas.List.{drop_more, map-append, reverse-append}
use Rattle.mst_rows.specs.Rows.{Row}
use Rattle.mst_ask.specs.Kept.{line_row, rows_of}

-- a line before them
rows_before : (line : Vec ℕ Global) (lines : List (Vec ℕ Global)) → rows_of (line ∷ lines) ≡ rows_of lines ++ line_row line.items ∷ []
rows_before line lines =
    ap (map line_row) (reverse-append (line.items ∷ []) (map (λ l. l.items) lines))
    ∙ map-append line_row (reverse (map (λ l. l.items) lines)) (line.items ∷ [])

-- the rows of the lines behind a place, and that of the line before it
pub rows_more : (grown : List Row → Type 0) (lines : List (Vec ℕ Global)) (left : ℕ) (line : Vec ℕ Global) (before : List Row) → 0 < left → left ≤ length lines → line ≡ get_or lines (left - 1) line
    → grown ((before ++ rows_of (drop left lines)) ++ line_row line.items ∷ []) → grown (before ++ rows_of (drop (left - 1) lines))
rows_more grown lines left line before some few is h =
    let at = left - 1 in
    let next : at + 1 ≡ left = omega (arith, some) in
    let cut : drop at lines ≡ line ∷ drop left lines = drop_more lines at line (omega (arith, some, few)) ∙ (λ i. sym is i ∷ drop (next i) lines) in
    subst grown
    (append_assoc before (rows_of (drop left lines)) (line_row line.items ∷ [])
    ∙ ap (λ rows. before ++ rows) (sym (rows_before line (drop left lines)) ∙ ap rows_of (sym cut))) h
