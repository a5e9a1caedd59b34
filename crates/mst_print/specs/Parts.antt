-- Lines and objects of what is refused, by their parts. Only the crate's private clauses cite them.
use Rattle.std.specs.Prelude.{ℕ, List, [], ◌++◌, codes, decimal}
use Rattle.mst_print.specs.declared.form.Side.{Side}
use Rattle.mst_print.specs.declared.form.Side.TheVariants.{Only, Old, New}

-- first words, `N CODE TEXT` and the end of the line
abbrev pub code_line : List ℕ → ℕ → List ℕ → List ℕ → List ℕ
code_line first number code text = first ++ (decimal number ++ (codes " " ++ (code ++ (codes " " ++ (text ++ codes "\n")))))

-- the same as an object, behind the members that stand first
abbrev pub code_object : List ℕ → ℕ → List ℕ → List ℕ → List ℕ
code_object first number code text =
    codes "{" ++ (first ++ (codes "\"line\":" ++ (decimal number ++ (codes ",\"error\":\"" ++ (code ++ (codes "\",\"text\":\"" ++ (text ++ codes "\"}\n")))))))

-- `WORD CODE TEXT`, where what the word asks isn't answered
abbrev pub word_line : List ℕ → List ℕ → List ℕ → List ℕ
word_line word code text = word ++ (codes " " ++ (code ++ (codes " " ++ (text ++ codes "\n"))))

abbrev pub word_object : List ℕ → List ℕ → List ℕ → List ℕ
word_object word code text =
    codes "{\"query\":\"" ++ (word ++ (codes "\",\"error\":\"" ++ (code ++ (codes "\",\"text\":\"" ++ (text ++ codes "\"}\n")))))

-- the words that the line of a refusal begins with, by the script
abbrev pub side_word : Side → List ℕ
side_word Only = codes "line "
side_word Old = codes "old line "
side_word New = codes "new line "

-- what its object says of the script, where there are two
abbrev pub side_member : Side → List ℕ
side_member Only = []
side_member Old = codes "\"side\":\"old\","
side_member New = codes "\"side\":\"new\","
