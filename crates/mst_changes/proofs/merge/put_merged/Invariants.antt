use Rattle.std.proofs.Common.{◌≡◌, ◌+◌, ◌++◌, [], List, Option, length}
use Rattle.mst_changes.specs.declared.subject.Subject.{Subject}
use Rattle.mst_changes.specs.declared.value.VectorOrRole.{VectorOrRole}
use Rattle.mst_changes.specs.Kept.{entries_at}
use Rattle.mst_changes.specs.Merging.{Rise}
use Rattle.mst_changes.specs.PortChanges.{counted}
use Rattle.mst_rows.specs.Rows.{Row}
use Rattle.mst_changes.specs.contracts.merge.put_merged.{R-type}
use Rattle.mst_changes.proofs.Merged.{Left}
use Rattle.mst_changes.proofs.merge.put_merged.Given as goal

-- the rows that were put are counted, and the entries that are left are those of the subjects whose rows are still to come
abbrev pub invariant-loop-subject : goal.invariant-loop-subject
invariant-loop-subject g l = (subjects : List Subject) (x y : Subject → Option VectorOrRole) → Rise subjects → l.fn.olds ≡ entries_at x subjects → l.fn.news ≡ entries_at y subjects
    → (first : R-type g.row.R) (rows : List Row) → g.R.Rows.grew first l.fn.out rows → (own : List Row) × (l.count ≡ counted own) × g.R.Rows.grew first l.out (rows ++ own) × Left x y subjects [] l.olds_left l.news_left own

abbrev pub decreases-loop-subject : goal.decreases-loop-subject
decreases-loop-subject g l = length l.olds_left + length l.news_left
