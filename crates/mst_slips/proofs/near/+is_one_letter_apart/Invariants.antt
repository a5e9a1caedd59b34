use Rattle.std.proofs.Common.{length}
use Rattle.mst_slips.proofs.near.+is_one_letter_apart.Given as goal

-- the letters that are left
abbrev pub decreases-is_one_letter_apart : goal.decreases-is_one_letter_apart
decreases-is_one_letter_apart l = length l.a.now
