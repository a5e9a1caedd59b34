use Rattle.std.proofs.Common.{◌≡◌, length}
use Rattle.mst_judged.proofs.homes.with_both.Given as goal

-- those of the classes so far
abbrev pub invariant-loop-class : goal.invariant-loop-class
invariant-loop-class l = length l.flags.items ≡ l.class
