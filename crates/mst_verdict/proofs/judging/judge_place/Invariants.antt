use Rattle.std.proofs.Common.{take}
use Rattle.std.specs.List.{AllZip}
use Rattle.mst_net.specs.tables.Tables.{Net}
use Rattle.mst_forest.specs.Settled.{outcome_of}
use Rattle.mst_telling.specs.Judged.{reasons_in}
use Rattle.mst_verify.specs.tree_judges.judged.Islands.{IsKeptOf}
use Rattle.mst_verify.specs.tree_judges.judged.reasons.Named.{Prior}
use Rattle.mst_verify.specs.tree_judges.judged.Seen.{IsBefore}
use Rattle.mst_verdict.specs.Verifying.{AreLacking, AreReasonsIf, expected_in}
use Rattle.mst_verdict.proofs.judging.judge_place.Given as goal

-- the reasons of the lines so far
abbrev pub invariant-loop-n : goal.invariant-loop-n
invariant-loop-n l =
    (net before : Net) (prior : Prior) → AreLacking net l.judging.is_last l.judging.lines.now l.judging.missing.now → IsBefore before l.judged.before.now → IsKeptOf prior l.judged.prior l.judged.leaving.now
    → AllZip (λ line those. AreReasonsIf l.judged.plan.now.net (outcome_of l.judged.plan.now) before l.judged.lost.now prior (expected_in l.judging net line l.place) those) (take l.n l.judging.lines.now) (reasons_in l.all)
