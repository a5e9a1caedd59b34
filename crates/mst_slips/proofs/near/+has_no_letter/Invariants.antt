use Rattle.std.proofs.Common.{length}
use Rattle.mst_slips.proofs.near.+has_no_letter.Given as goal

-- the letters that are left
abbrev pub decreases-has_no_letter : goal.decreases-has_no_letter
decreases-has_no_letter l = length l.text.now
