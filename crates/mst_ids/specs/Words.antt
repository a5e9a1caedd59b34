-- Lines of words, and words that stand in several texts.
use Rattle.std.specs.Prelude.{ℕ, List, [], ◌∷◌, ◌++◌, decimal}
use Rattle.std.specs.List.{flat_map}
use Rattle.mst_ids.specs.declared.name.PortName.{PortName}

-- a word after a space
abbrev pub after_space : List ℕ → List ℕ
after_space word = 32 ∷ word

-- the words with one space between two of them, and the end of the line
abbrev pub line : List (List ℕ) → List ℕ
line [] = 10 ∷ []
line (word ∷ words) = word ++ flat_map after_space words ++ 10 ∷ []

-- a word after a `,`
abbrev pub after_comma : List ℕ → List ℕ
after_comma word = 44 ∷ word

-- the words with `,` between two of them, or `-` where there is none
abbrev pub comma_list : List (List ℕ) → List ℕ
comma_list [] = 45 ∷ []
comma_list (word ∷ words) = word ++ flat_map after_comma words

-- these words in a line, or `-` where there is none
abbrev pub listed : List (List ℕ) → List (List ℕ)
listed [] = (45 ∷ []) ∷ []
listed (word ∷ words) = word ∷ words

-- the word of a port: the name of its bridge, `:` and its number
abbrev pub port_text : PortName → List ℕ
port_text port = port.bridge ++ 58 ∷ decimal port.number
