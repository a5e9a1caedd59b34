use Rattle.std.proofs.Common.{◌≡◌, map, take}
use Rattle.mst_rows.specs.Rows.{said}
use Rattle.mst_telling.specs.Verified.{promises_of}
use Rattle.mst_telling.proofs.promises.promises.Given as goal

-- those of the lines so far
abbrev pub invariant-loop-n : goal.invariant-loop-n
invariant-loop-n l = map said l.promises.items ≡ promises_of (take l.n l.lines) (take l.n l.networks) (take l.n l.flags)
