use Rattle.std.proofs.Common.{◌≡◌, fold, max, take}
use Rattle.mst_tree_judges.proofs.depth.greatest.Given as goal

-- the most of those so far
abbrev pub invariant-loop-child : goal.invariant-loop-child
invariant-loop-child l = l.most ≡ fold (λ most c. max most c.steps) 0 (take l.child-index l.children)
