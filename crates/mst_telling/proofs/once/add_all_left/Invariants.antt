use Rattle.std.proofs.Common.{◌≡◌, ◌≤◌, ◌++◌, List, map, take}
use Rattle.std.specs.List.{count_by, flat_map}
use Rattle.mst_rows.specs.Rows.{Row}
use Rattle.mst_graph.specs.Lists.{has_any}
use Rattle.mst_telling.specs.Judged.{AreTexts, FoldsBy, found_at}
use Rattle.mst_telling.specs.Once.{left_out}
use Rattle.mst_telling.specs.Told.{Found}
use Rattle.mst_telling.proofs.once.add_all_left.Given as goal

-- the lines of text of the places so far, and in how many there are some
abbrev pub invariant-loop-finding : goal.invariant-loop-finding
invariant-loop-finding l = record {
  counted : (nows : List Row) → FoldsBy nows l.folding
      → l.count ≡ count_by (λ (f : Found). has_any (left_out l.folding.number l.folding.scope.now nows f)) (map (found_at l.n) (take l.finding-index l.found));
  few : l.count ≤ l.finding-index;
  added : (nows rows : List Row) → FoldsBy nows l.folding → AreTexts rows l.fn.texts
      → AreTexts (rows ++ flat_map (left_out l.folding.number l.folding.scope.now nows) (map (found_at l.n) (take l.finding-index l.found))) l.texts;
}
