use Rattle.std.proofs.Common.{◌≡◌, map, take}
use Rattle.std.specs.List.{flat_map}
use Rattle.mst_reasons.specs.Risks.{lines_of}
use Rattle.mst_reasons.specs.SeenRisks.{seen_risk}
use Rattle.mst_reasons.proofs.risks.risks.Given as goal

-- those of the names so far
abbrev pub invariant-loop-name : goal.invariant-loop-name
invariant-loop-name l = l.risks.items ≡ flat_map (λ name. seen_risk l.failures (lines_of name (map (λ risk. risk.now) l.whole.items)) name) (take l.name-index l.name-items)
