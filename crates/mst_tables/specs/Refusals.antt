-- The texts of refusals.
use Rattle.std.specs.Prelude.{ℕ, List, codes}
use Rattle.mst_tables.specs.declared.refusal.Refusal.{Refusal}
use Rattle.mst_tables.specs.declared.refusal.Refusal.TheVariants.{E04, E05, E06, E07, E08, E09, E10, E11, E12, E13, E14, E15, E16, E99}

abbrev pub code_of : Refusal → List ℕ
code_of E04 = codes "E04"
code_of E05 = codes "E05"
code_of E06 = codes "E06"
code_of E07 = codes "E07"
code_of E08 = codes "E08"
code_of E09 = codes "E09"
code_of E10 = codes "E10"
code_of E11 = codes "E11"
code_of E12 = codes "E12"
code_of E13 = codes "E13"
code_of E14 = codes "E14"
code_of E15 = codes "E15"
code_of E16 = codes "E16"
code_of E99 = codes "E99"

abbrev pub text_of : Refusal → List ℕ
text_of E04 = codes "no such bridge"
text_of E05 = codes "no such port"
text_of E06 = codes "no such LAN"
text_of E07 = codes "name taken"
text_of E08 = codes "MAC taken"
text_of E09 = codes "port number taken"
text_of E10 = codes "port plugged"
text_of E11 = codes "port not plugged"
text_of E12 = codes "bridge has ports"
text_of E13 = codes "LAN has plugs"
text_of E14 = codes "limit"
text_of E15 = codes "more than 64 trees"
text_of E16 = codes "no mark"
text_of E99 = codes "want of memory"
