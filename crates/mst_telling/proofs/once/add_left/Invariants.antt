use Rattle.std.proofs.Common.{◌≡◌, ◌++◌, List, None, take}
use Rattle.std.specs.List.{filter}
use Rattle.mst_rows.specs.Rows.{Row}
use Rattle.mst_graph.specs.Lists.{has_any}
use Rattle.mst_telling.specs.Judged.{AreTexts, FoldsBy}
use Rattle.mst_telling.specs.Once.{is_left_out}
use Rattle.mst_telling.specs.Told.{reason_rows}
use Rattle.mst_telling.proofs.once.add_left.Given as goal

-- the lines of text of those of the reasons so far that are left out, and whether there are some
abbrev pub invariant-loop-reason : goal.invariant-loop-reason
invariant-loop-reason l = record {
  is : (nows : List Row) → FoldsBy nows l.folding → l.is_any ≡ has_any (reason_rows l.folding.number None (filter (is_left_out l.folding.number l.folding.scope.now nows l.finding.place) (take l.reason-index l.reasons)));
  added : (nows rows : List Row) → FoldsBy nows l.folding → AreTexts rows l.fn.texts
      → AreTexts (rows ++ reason_rows l.folding.number None (filter (is_left_out l.folding.number l.folding.scope.now nows l.finding.place) (take l.reason-index l.reasons))) l.texts;
}
