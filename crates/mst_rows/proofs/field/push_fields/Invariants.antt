use Rattle.std.proofs.Common.{◌≡◌, ◌++◌, drop, map, false}
use Rattle.mst_rows.specs.Fields.{field}
use Rattle.mst_rows.specs.Answers.{field_json, joined}
use Rattle.mst_rows.proofs.field.push_fields.Given as goal

abbrev pub invariant-loop-field : goal.invariant-loop-field
invariant-loop-field l = l.out.items ++ joined l.follows (map field_json (map field (drop l.field-index l.fields))) ≡ l.fn.out.items ++ joined false (map field_json (map field l.fields))
