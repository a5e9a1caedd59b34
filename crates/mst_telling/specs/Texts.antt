-- Rows that are told by one line of text.
use Rattle.std.specs.Prelude.{ℕ, Bool, not, nat_eq, List, filter}
use Rattle.std.specs.Cmp.Lexicographic.{pointwise}
use Rattle.std.specs.List.{list_any}
use Rattle.mst_rows.specs.Lines.{row_line}
use Rattle.mst_rows.specs.Rows.{Row}

-- two lines of text are equal, byte for byte
abbrev pub same_line : List ℕ → List ℕ → Bool
same_line text other = pointwise nat_eq text other

-- two rows have one line of text
abbrev pub same_text : Row → Row → Bool
same_text row other = same_line (row_line row) (row_line other)

-- some of these rows has the text of this one
abbrev pub is_told : List Row → Row → Bool
is_told rows row = list_any (same_text row) rows

-- the rows of now whose text none of before has
abbrev pub news : List Row → List Row → List Row
news before now = filter (λ row. not (is_told before row)) now
