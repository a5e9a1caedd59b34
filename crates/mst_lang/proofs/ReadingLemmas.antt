-- What a caller cites of the reading of lines.
use Rattle.std.proofs.Common.{◌≡◌, ℕ, ◌<◌, cond, List, [], length, Ok, Err, ap, refl}
use Rattle.std.proofs.lemmas.Bool.{lt-ltb}
use Rattle.std.specs.List.{list_all}
use Rattle.mst_lang.specs.Words.{words, is_plain}
use Rattle.mst_lang.specs.Reading.{reading, worded}
use Rattle.mst_lang.specs.declared.line.Version.TheVariants.{V1}
use Rattle.mst_lang.specs.declared.line.Line.TheVariants.{Blank}
use Rattle.mst_lang.specs.declared.line.Fault.TheVariants.{E01}

-- a line that is too long isn't read, whatever it holds
pub reading-long : (line : List ℕ) → 4096 < length line → reading line ≡ Err E01
reading-long line long = ap (λ t. cond t (Err E01) (worded V1 (list_all is_plain line) (words line))) (lt-ltb 4096 (length line) long)

-- an empty line says nothing
pub reading_of_nothing : reading [] ≡ Ok Blank
reading_of_nothing = refl
