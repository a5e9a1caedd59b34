use Rattle.std.proofs.Common.{◌≡◌, ◌≤◌, take}
use Rattle.mst_telling.specs.Judged.{told_in}
use Rattle.mst_telling.specs.Steps.{unkept_count}
use Rattle.mst_telling.proofs.steps.unkept_count.Given as goal

-- of the lines so far
abbrev pub invariant-loop-n : goal.invariant-loop-n
invariant-loop-n l = record { counted : l.count ≡ unkept_count (told_in (take l.n l.lines) l.judgement); few : l.count ≤ l.n }
