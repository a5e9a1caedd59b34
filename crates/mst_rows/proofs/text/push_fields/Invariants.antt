use Rattle.std.proofs.Common.{◌≡◌, ◌++◌, drop, map}
use Rattle.std.specs.List.{flat_map}
use Rattle.mst_ids.specs.Words.{after_space}
use Rattle.mst_rows.specs.Fields.{field}
use Rattle.mst_rows.specs.Lines.{bare_text}
use Rattle.mst_rows.proofs.text.push_fields.Given as goal

abbrev pub invariant-loop-field : goal.invariant-loop-field
invariant-loop-field l = l.out.items ++ flat_map (λ f. after_space (bare_text f.1)) (map field (drop l.field-index l.fields)) ≡ l.fn.out.items ++ flat_map (λ f. after_space (bare_text f.1)) (map field l.fields)
