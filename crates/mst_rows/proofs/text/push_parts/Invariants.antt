use Rattle.std.proofs.Common.{◌≡◌, ◌++◌, drop, map}
use Rattle.mst_rows.specs.Rows.{cell}
use Rattle.mst_rows.specs.Lines.{parts_text}
use Rattle.mst_rows.proofs.text.push_parts.Given as goal

abbrev pub invariant-loop-part : goal.invariant-loop-part
invariant-loop-part l = l.out.items ++ parts_text (drop l.part-index l.parts) (map cell l.rest) ≡ l.fn.out.items ++ parts_text l.parts (map cell l.values)
