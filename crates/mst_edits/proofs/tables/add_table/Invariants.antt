use Rattle.std.proofs.Common.{◌≡◌, ◌++◌, length, map, drop}
use Rattle.mst_edits.specs.TableLines.{edit_of, table_edits, with_ways}
use Rattle.mst_edits.proofs.tables.add_table.Given as goal

-- the edits so far, and those of the lines that are left, are all
abbrev pub invariant-loop-line : goal.invariant-loop-line
invariant-loop-line l = record {
  long : length l.now.items ≡ 4094;
  edits : l.edits.items ++ map (edit_of l.name) (with_ways l.name l.after l.now.items (drop l.line-index l.line-items)) ≡ l.fn.edits.items ++ table_edits l.name l.fn.before l.after;
}
