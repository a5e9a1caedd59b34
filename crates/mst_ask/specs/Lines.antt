-- The lines of a script, of which all was read or only a front.
use Rattle.std.specs.Prelude.{ℕ, Bool, true, false, List, []}
use Rattle.mst_lang.specs.Lines.{last_line, lines_from, no_line}

-- what is left behind the last LF is a line of the whole script alone
abbrev pub ending : Bool → List ℕ → List (List ℕ)
ending true = last_line
ending false = no_line

-- the lines that are known of a text, which is the whole script or what was read of it
abbrev pub lines_in : Bool → List ℕ → List (List ℕ)
lines_in is_whole text = lines_from (ending is_whole) [] text
