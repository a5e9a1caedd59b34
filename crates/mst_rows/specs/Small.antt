-- Rows whose numbers have 64 bits.
use Rattle.std.specs.Prelude.{ℕ, ◌<◌, ◌^◌, ⊤}
use Rattle.std.specs.List.{AllByRecursion}
use Rattle.mst_kinds.specs.declared.key.Key.{Key}
use Rattle.mst_rows.specs.Cells.{Bare, nothing, text, count, Cell, absent, own, word, number, port, vids, names, ports, trees, groups, active, object, failed_lan, failed_bridge, failed_risk, no_failure, lines, promises}
use Rattle.mst_rows.specs.Rows.{Row}

abbrev pub Fits64 : ℕ → Type 0
Fits64 n = n < 2 ^ 64

abbrev pub HasSmall : Key × Bare → Type 0
HasSmall (k, nothing) = ⊤
HasSmall (k, text w) = ⊤
HasSmall (k, count n) = Fits64 n

abbrev pub IsSmall : Cell → Type 0
IsSmall absent = ⊤
IsSmall own = ⊤
IsSmall (word w) = ⊤
IsSmall (number n) = Fits64 n
IsSmall (port p) = Fits64 p.number
IsSmall (vids runs) = AllByRecursion (λ run. Fits64 run.0 × Fits64 run.1) runs
IsSmall (names ns) = ⊤
IsSmall (ports ps) = AllByRecursion (λ p. Fits64 p.number) ps
IsSmall (trees ts) = AllByRecursion Fits64 ts
IsSmall (groups gs) = ⊤
IsSmall (active ps) = AllByRecursion (λ p. Fits64 p.port.number) ps
IsSmall (object fs) = AllByRecursion HasSmall fs
IsSmall (failed_lan n) = ⊤
IsSmall (failed_bridge n) = ⊤
IsSmall (failed_risk n) = ⊤
IsSmall no_failure = ⊤
IsSmall (lines first last) = Fits64 first × Fits64 last
IsSmall (promises ps) = AllByRecursion (λ p. Fits64 p.line × Fits64 p.networks) ps

abbrev pub RowIsSmall : Row → Type 0
RowIsSmall row = AllByRecursion IsSmall row.cells
