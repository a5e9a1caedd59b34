use Rattle.std.proofs.Common.{◌≡◌, ◌++◌, map, take, drop}
use Rattle.mst_lag.specs.Renewed.{member_again}
use Rattle.mst_lag.proofs.renewing.renew_members.Given as goal

-- the members before the next are renewed
abbrev pub invariant-loop-member : goal.invariant-loop-member
invariant-loop-member l = l.member-items ≡ map (member_again l.lan l.is_up) (take l.member-index l.fn.members.items) ++ drop l.member-index l.fn.members.items
