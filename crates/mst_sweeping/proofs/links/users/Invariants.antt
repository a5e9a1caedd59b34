use Rattle.std.proofs.Common.{take}
use Rattle.mst_sweeping.specs.Seen.{AreUsers}
use Rattle.mst_sweeping.proofs.links.users.Given as goal

-- the bridges of the links so far
abbrev pub invariant-loop-link : goal.invariant-loop-link
invariant-loop-link l = AreUsers (take l.link-index l.links) l.users.entries
