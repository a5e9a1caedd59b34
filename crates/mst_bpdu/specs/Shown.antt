-- What is shown of a value.
use Rattle.std.specs.Prelude.{min, take}
use Rattle.mst_ids.specs.Texts.{bridge_id_text, port_id_text}
use Rattle.mst_rows.specs.Cells.{Cell, absent, word, number}
use Rattle.mst_bpdu.specs.declared.shown.Shown.{Shown}
use Rattle.mst_bpdu.specs.declared.shown.Shown.TheVariants.{Nothing, Number, Bridge, Port, Digits}

abbrev pub shown_cell : Shown → Cell
shown_cell Nothing = absent
shown_cell (Number n) = number n
shown_cell (Bridge b) = word (bridge_id_text b)
shown_cell (Port p) = word (port_id_text p)
shown_cell (Digits digits length) = word (take (min length 64) digits)
