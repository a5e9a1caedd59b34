use Rattle.std.proofs.Common.{take}
use Rattle.std.specs.List.{All}
use Rattle.mst_settle.proofs.Rewired.{AreSameAt}
use Rattle.mst_settle.proofs.differences.same_at_numbers.Given as goal

abbrev pub invariant-loop-number : goal.invariant-loop-number
invariant-loop-number g l = All (AreSameAt l.from l.to) (take l.number-index l.numbers)
