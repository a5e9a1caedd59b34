use Rattle.std.proofs.Common.{◌≡◌, ℕ, nat_eq, take}
use Rattle.mst_summary.specs.Grouped.{group_at}
use Rattle.mst_summary.specs.Roots.{followers_of}
use Rattle.mst_summary.proofs.roots.by_root.Given as goal

-- those before the next
abbrev pub invariant-loop-follower : goal.invariant-loop-follower
invariant-loop-follower l = (id : ℕ) → group_at nat_eq l.groups id ≡ followers_of id (take l.follower-index l.followers)
