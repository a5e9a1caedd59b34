use Rattle.std.proofs.Common.{◌≡◌, ◌++◌, drop, map}
use Rattle.mst_rows.specs.Rows.{cell}
use Rattle.mst_rows.specs.Answers.{parts_json}
use Rattle.mst_rows.proofs.answer.push_parts.Given as goal

abbrev pub invariant-loop-part : goal.invariant-loop-part
invariant-loop-part l = l.out.items ++ parts_json (drop l.part-index l.parts) (map cell l.rest) ≡ l.fn.out.items ++ parts_json l.parts (map cell l.values)
