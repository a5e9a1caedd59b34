use Rattle.std.proofs.Common.{◌≡◌, ◌++◌, length, map, take}
use Rattle.mst_edits.specs.TableLines.{edit_of, table_after}
use Rattle.mst_edits.proofs.tables.make.Given as goal

-- the lines before it are made
abbrev pub invariant-loop-line : goal.invariant-loop-line
invariant-loop-line l = record {
  long : length l.now ≡ 4094;
  edits : l.edits.items ≡ l.fn.edits.items ++ map (edit_of l.name) (take l.line-index l.lines);
  table : l.now ≡ table_after l.fn.now (take l.line-index l.lines);
}
