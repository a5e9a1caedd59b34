use Rattle.std.proofs.Common.{◌≡◌, not, is_some, take}
use Rattle.mst_telling.specs.Judged.{network_counts}
use Rattle.mst_telling.proofs.promises.networks.Given as goal

-- those of the lines so far
abbrev pub invariant-loop-n : goal.invariant-loop-n
invariant-loop-n l = l.counts.items ≡ network_counts (take l.n l.lines) l.events l.judgement
