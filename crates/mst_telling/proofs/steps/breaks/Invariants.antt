use Rattle.std.proofs.Common.{◌≡◌, take}
use Rattle.mst_telling.specs.Judged.{change_at, each_from}
use Rattle.mst_telling.specs.Steps.{breaks}
use Rattle.mst_telling.proofs.steps.breaks.Given as goal

-- of the lines so far
abbrev pub invariant-loop-n : goal.invariant-loop-n
invariant-loop-n l = l.is_any ≡ breaks (each_from (λ n line. change_at n line l.before l.now) 0 (take l.n l.lines))
