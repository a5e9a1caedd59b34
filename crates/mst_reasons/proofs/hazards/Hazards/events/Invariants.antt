use Rattle.std.proofs.Common.{◌≡◌, ◌++◌, take}
use Rattle.mst_reasons.proofs.hazards.Hazards.events.Given as goal

-- the failures, each alone, and the risks so far
abbrev pub invariant-loop-risk : goal.invariant-loop-risk
invariant-loop-risk l = l.events.items ≡ l.self.single ++ take l.risk-index l.risk-items
