use Rattle.std.proofs.Common.{◌≡◌, ◌++◌, map, take}
use Rattle.mst_edits.specs.TableLines.{edit_of}
use Rattle.mst_edits.proofs.tables.add_lines.Given as goal

-- the edits of the lines before it
abbrev pub invariant-loop-line : goal.invariant-loop-line
invariant-loop-line l = l.edits.items ≡ l.fn.edits.items ++ map (edit_of l.name) (take l.line-index l.lines)
