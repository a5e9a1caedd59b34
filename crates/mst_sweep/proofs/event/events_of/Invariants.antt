use Rattle.std.proofs.Common.{◌≡◌, map, take}
use Rattle.mst_sweep.specs.Failures.{alone}
use Rattle.mst_sweep.proofs.event.events_of.Given as goal

-- each of the failures so far
abbrev pub invariant-loop-failure : goal.invariant-loop-failure
invariant-loop-failure l = l.events.items ≡ map alone (take l.failure-index l.failures)
