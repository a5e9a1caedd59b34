use Rattle.std.proofs.Common.{◌+◌, length}
use Rattle.mst_slips.proofs.near.+is_numbered.Given as goal

-- the letters that are left of both
abbrev pub decreases-is_numbered : goal.decreases-is_numbered
decreases-is_numbered l = length l.a.now + length l.b.now
