-- What is printed of a text that is said whole.
use Rattle.std.specs.Prelude.{ℕ, List, []}
use Rattle.mst_drive.specs.declared.said.Said.{Said}
use Rattle.mst_drive.specs.declared.said.Said.TheVariants.{Nothing, Text}

abbrev pub said_text : Said → List ℕ
said_text Nothing = []
said_text (Text text) = text.items
