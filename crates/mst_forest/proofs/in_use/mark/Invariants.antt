use Rattle.std.proofs.Common.{◌≡◌, ◌<◌, ◌==◌, ◌||◌, ℕ, false, length, take, get_or}
use Rattle.std.specs.List.{list_any}
use Rattle.mst_forest.proofs.in_use.mark.Given as goal

-- the trees up to the next have their flags, and those that were set
abbrev pub invariant-loop-tree : goal.invariant-loop-tree
invariant-loop-tree l = record {
  long : length l.used ≡ 4095;
  marked : (tree : ℕ) → tree < 4095 → get_or l.used tree false ≡ (get_or l.fn.used tree false || list_any (λ t. t == tree) (take l.tree-index l.trees));
}
