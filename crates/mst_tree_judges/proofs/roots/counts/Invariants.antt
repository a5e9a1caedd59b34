use Rattle.std.proofs.Common.{◌≡◌, ◌==◌, ℕ, nat_eq, filter, length, take, unwrap_or}
use Rattle.indexmap.specs.IndexMap.{get}
use Rattle.mst_tree_judges.proofs.roots.counts.Given as goal

-- how many of those so far name each root
abbrev pub invariant-loop-follower : goal.invariant-loop-follower
invariant-loop-follower l = (id : ℕ) → unwrap_or (get nat_eq l.counts id) 0 ≡ length (filter (λ f. f.root == id) (take l.follower-index l.followers))
