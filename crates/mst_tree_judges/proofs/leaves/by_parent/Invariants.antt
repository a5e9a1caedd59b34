use Rattle.std.proofs.Common.{◌≡◌, ℕ, List, filter, map, take}
use Rattle.mst_tree_judges.specs.Seen.{is_child_of, names_at}
use Rattle.mst_tree_judges.proofs.leaves.by_parent.Given as goal

-- the children so far
abbrev pub invariant-loop-child : goal.invariant-loop-child
invariant-loop-child l = (parent : List ℕ) → names_at l.kept parent ≡ map (λ c. c.name) (filter (is_child_of parent) (take l.child-index l.children))
