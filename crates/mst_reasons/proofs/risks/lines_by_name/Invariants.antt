use Rattle.std.proofs.Common.{◌≡◌, ℕ, List, map, take}
use Rattle.mst_reasons.specs.Risks.{lines_of}
use Rattle.mst_reasons.specs.SeenRisks.{lines_at}
use Rattle.mst_reasons.proofs.risks.lines_by_name.Given as goal

-- the lines so far
abbrev pub invariant-loop-n : goal.invariant-loop-n
invariant-loop-n l = (name : List ℕ) → lines_at l.kept name ≡ lines_of name (map (λ risk. risk.now) (take l.n l.lines))
