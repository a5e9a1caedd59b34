use Rattle.std.proofs.Common.{length}
use Rattle.mst_slips.proofs.regions.+put_each_two.Given as goal

-- the regions that are left
abbrev pub decreases-put_each_two : goal.decreases-put_each_two
decreases-put_each_two g l = length l.firsts.now
