use Rattle.std.proofs.Common.{◌≡◌, filter, map, take}
use Rattle.mst_reasons.specs.Risks.{fails_by}
use Rattle.mst_reasons.proofs.risks.failures_by.Given as goal

-- those of the failures so far
abbrev pub invariant-loop-failure : goal.invariant-loop-failure
invariant-loop-failure l = l.own.items ≡ filter (fails_by (map (λ risk. risk.now) l.lines)) (take l.failure-index l.failures)
