use Rattle.std.proofs.Common.{ℕ, ◌<◌, [], take, get_or}
use Rattle.mst_classes.specs.Alike.{TellApart}
use Rattle.mst_classes.proofs.alike.split_by_tables.Given as goal

abbrev pub invariant-loop-table : goal.invariant-loop-table
invariant-loop-table l = record { told : TellApart (take l.table-index l.tables) [] l.numbers.items; small : (i : ℕ) → get_or l.numbers.items i 0 < 4096 }
