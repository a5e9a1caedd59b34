-- What is held of a line that comes byte by byte.
use Rattle.std.specs.Prelude.{ℕ, Bool, List, [], ◌∷◌, ◌++◌, length, take, nat_lt, ◌==◌, slice_index, if◌then◌else◌}
use Rattle.std.specs.List.{list_all}
use Rattle.mst_lang.specs.Lines.{drop_cr}
use Rattle.mst_lang.specs.Words.{is_blank}

abbrev pub are_blank : List ℕ → Bool
are_blank bytes = list_all is_blank bytes

-- The next byte is held while there is room. Behind it one more is held in place of a blank, while all that is held is
-- blank but for the last byte
unfoldable pub hold : List ℕ → ℕ → List ℕ
hold held b =
    if nat_lt (length held) 4098 then held ++ b ∷ []
    else (if are_blank (take 4097 held) then take 4096 held ++ slice_index held 4097 ∷ b ∷ [] else held)

-- the lines of what follows, where of each line no more is held than is needed
abbrev pub lines_held : (List ℕ → List (List ℕ)) → List ℕ → List ℕ → List (List ℕ)
lines_held last part [] = last part
lines_held last part (b ∷ bs) = if b == 10 then drop_cr part ∷ lines_held last [] bs else lines_held last (hold part b) bs

-- what ends the last line, where it has a byte
abbrev pub ending : List ℕ → List ℕ
ending [] = []
ending (b ∷ bs) = 10 ∷ []
