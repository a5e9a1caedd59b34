-- The texts of the faults of a line.
use Rattle.std.specs.Prelude.{ℕ, List, codes}
use Rattle.mst_lang.specs.declared.line.Fault.{Fault}
use Rattle.mst_lang.specs.declared.line.Fault.TheVariants.{E01, E02, E03}

abbrev pub code_of : Fault → List ℕ
code_of E01 = codes "E01"
code_of E02 = codes "E02"
code_of E03 = codes "E03"

abbrev pub text_of : Fault → List ℕ
text_of E01 = codes "no such command"
text_of E02 = codes "bad argument"
text_of E03 = codes "bad VID or tree"
