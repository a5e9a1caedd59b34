use Rattle.std.proofs.Common.{take}
use Rattle.std.specs.List.{All}
use Rattle.mst_settle.specs.Settler.{KeepsOutcome}
use Rattle.mst_settle.specs.Differences.{NumberIsDone}
use Rattle.mst_settle.proofs.differences.touch_numbers.Given as goal

abbrev pub invariant-loop-number : goal.invariant-loop-number
invariant-loop-number g l = record {
  keeps : KeepsOutcome l.fn.settler l.settler;
  done : All (NumberIsDone l.from l.to l.settler) (take l.number-index l.numbers);
}
