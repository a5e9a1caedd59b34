-- The texts of the faults of a policy's line.
use Rattle.std.specs.Prelude.{ℕ, List, codes}
use Rattle.mst_lang.specs.Faults as scripts
use Rattle.mst_lang.specs.declared.line.Fault.{Fault}
use Rattle.mst_lang.specs.declared.line.Fault.TheVariants.{E01}

-- a script's, but for that of a line which is none
abbrev pub text_of : Fault → List ℕ
text_of E01 = codes "no such expectation"
text_of fault = scripts.text_of fault
