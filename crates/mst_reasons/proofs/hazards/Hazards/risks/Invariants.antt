use Rattle.std.proofs.Common.{◌≡◌, take}
use Rattle.mst_reasons.proofs.hazards.Hazards.risks.Given as goal

-- the risks so far
abbrev pub invariant-loop-risk : goal.invariant-loop-risk
invariant-loop-risk l = l.events.items ≡ take l.risk-index l.risk-items
