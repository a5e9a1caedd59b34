use Rattle.std.proofs.Common.{◌≡◌, Bor, false, take}
use Rattle.std.specs.List.{list_any}
use Rattle.mst_policy.specs.declared.risk.RiskLine.{RiskLine}
use Rattle.mst_reasons.specs.Risks.{items_have}
use Rattle.mst_reasons.proofs.risks.fails_by.Given as goal

-- none of the lines so far says so
abbrev pub invariant-loop-n : goal.invariant-loop-n
invariant-loop-n l = list_any (λ (line : Bor RiskLine). items_have line.now.items l.failure) (take l.n l.lines) ≡ false
