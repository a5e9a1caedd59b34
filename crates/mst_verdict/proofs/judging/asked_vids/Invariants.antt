use Rattle.std.proofs.Common.{◌≡◌, None, false, take}
use Rattle.std.specs.List.{AllByRecursion}
use Rattle.mst_net.specs.tables.Tables.{Net}
use Rattle.mst_verdict.specs.Verifying.{AreLacking, expected_in}
use Rattle.mst_verdict.proofs.judging.asked_vids.Given as goal

-- none of the lines so far expects anything, unless some does
abbrev pub invariant-loop-n : goal.invariant-loop-n
invariant-loop-n l =
    l.is_any ≡ false → (net : Net) → AreLacking net l.judging.is_last l.judging.lines.now l.judging.missing.now → AllByRecursion (λ line. expected_in l.judging net line l.place ≡ None) (take l.n l.judging.lines.now)
