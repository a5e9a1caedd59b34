-- Rows that have as many values as the parts of their kind take, each of its key's type.
use Rattle.std.specs.Prelude.{◌≡◌, ⊤}
use Rattle.std.specs.List.{AllByRecursion, AllZip}
use Rattle.mst_kinds.specs.declared.key.Key.{Key}
use Rattle.mst_kinds.specs.Sorts.{Sort, sort_of, sorts_of}
use Rattle.mst_kinds.specs.Sorts as sort
use Rattle.mst_rows.specs.Cells.{Bare, nothing, text, count, Cell, absent, own, word, number, port, vids, names, ports, trees, groups, active, object, failed_lan, failed_bridge, failed_risk, no_failure, lines, promises}
use Rattle.mst_rows.specs.Rows.{Row}
use Rattle.mst_rows.specs.Small.{RowIsSmall}

-- a field of an object, of its key's type
abbrev pub IsField : Key × Bare → Type 0
IsField (k, nothing) = ⊤
IsField (k, text w) = sort_of k ≡ sort.words
IsField (k, count n) = sort_of k ≡ sort.numbers

-- a value of a type, or nothing; in place of a giver stands a bridge's own vector, and a record's own port is always there
abbrev pub IsOf : Sort → Cell → Type 0
IsOf sort.words (word w) = ⊤
IsOf sort.words absent = ⊤
IsOf sort.numbers (number n) = ⊤
IsOf sort.numbers absent = ⊤
IsOf sort.a_port (port p) = ⊤
IsOf sort.a_port absent = ⊤
IsOf sort.giver (port p) = ⊤
IsOf sort.giver own = ⊤
IsOf sort.vids (vids runs) = ⊤
IsOf sort.names (names ns) = ⊤
IsOf sort.ports (ports ps) = ⊤
IsOf sort.trees (trees ts) = ⊤
IsOf sort.groups (groups gs) = ⊤
IsOf sort.active_ports (active ps) = ⊤
IsOf sort.objects (object fs) = AllByRecursion IsField fs
IsOf sort.objects absent = ⊤
IsOf sort.failures (failed_lan n) = ⊤
IsOf sort.failures (failed_bridge n) = ⊤
IsOf sort.failures (failed_risk n) = ⊤
IsOf sort.failures no_failure = ⊤
IsOf sort.own_port (port p) = ⊤
IsOf sort.lines (lines first last) = ⊤
IsOf sort.promises (promises ps) = ⊤
IsOf s c = ⊥

pub record Fits (row : Row) : Type 0 where
  pub typed : AllZip IsOf (sorts_of row.kind) row.cells
  pub small : RowIsSmall row
