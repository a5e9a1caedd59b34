-- What the fields of an object say.
use Rattle.mst_kinds.specs.declared.key.Key.{Key}
use Rattle.mst_rows.specs.declared.object.Field.{Field}
use Rattle.mst_rows.specs.declared.object.Simple.{Simple}
use Rattle.mst_rows.specs.declared.object.Simple.TheVariants.{Absent, Word, Number}
use Rattle.mst_rows.specs.Cells.{Bare, nothing, text, count}

abbrev pub bare : Simple → Bare
bare Absent = nothing
bare (Word w) = text w.now
bare (Number n) = count n

abbrev pub field : Field → Key × Bare
field f = (f.0, bare f.1)
