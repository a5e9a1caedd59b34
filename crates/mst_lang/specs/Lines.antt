-- The lines of an input: of a script, or of captures.
use Rattle.std.specs.Prelude.{ℕ, ◌==◌, List, [], ◌∷◌, ◌++◌, if◌then◌else◌}

-- without a carriage return at its end
abbrev pub drop_cr : List ℕ → List ℕ
drop_cr [] = []
drop_cr (b ∷ []) = if b == 13 then [] else b ∷ []
drop_cr (b ∷ c ∷ bs) = b ∷ drop_cr (c ∷ bs)

-- the line that is left where an input ends
abbrev pub last_line : List ℕ → List (List ℕ)
last_line [] = []
last_line (b ∷ bs) = drop_cr (b ∷ bs) ∷ []

-- what is left counts as no line, where it isn't known whether the input ends there
abbrev pub no_line : List ℕ → List (List ℕ)
no_line part = []

-- the lines of what follows, where `part` has come of the next one. LF ends each of them, and `last` says which
-- lines there are in what is left at the end
abbrev pub lines_from : (List ℕ → List (List ℕ)) → List ℕ → List ℕ → List (List ℕ)
lines_from last part [] = last part
lines_from last part (b ∷ bs) = if b == 10 then drop_cr part ∷ lines_from last [] bs else lines_from last (part ++ b ∷ []) bs

-- the lines of an input
abbrev pub lines_of : List ℕ → List (List ℕ)
lines_of bytes = lines_from last_line [] bytes

-- the lines that are complete in what was read of an input so far: those that LF has ended
abbrev pub ended_lines : List ℕ → List (List ℕ)
ended_lines read = lines_from no_line [] read
