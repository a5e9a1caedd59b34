use Rattle.std.proofs.Common.{◌≡◌, map, take}
use Rattle.mst_reasons.specs.SeenRisks.{seen_lines}
use Rattle.mst_reasons.proofs.risks.whole_lines.Given as goal

-- what the lines so far say
abbrev pub invariant-loop-line : goal.invariant-loop-line
invariant-loop-line l = map (λ risk. risk.now) l.whole.items ≡ seen_lines l.view (take l.line-index l.lines)
