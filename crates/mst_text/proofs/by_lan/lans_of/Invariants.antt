use Rattle.std.proofs.Common.{◌≡◌, ℕ, List, map, take}
use Rattle.mst_text.specs.KeptByLan.{kept_at}
use Rattle.mst_text.specs.LagView.{lans_in, lan_of}
use Rattle.mst_text.proofs.by_lan.lans_of.Given as goal

-- the members before the next
abbrev pub invariant-loop-member : goal.invariant-loop-member
invariant-loop-member l = (q : List ℕ) → kept_at l.kept q ≡ map lan_of (lans_in q (take l.member-index l.members))
