use Rattle.std.proofs.Common.{◌≡◌, ◌<◌, ◌==◌, ℕ, false, length, take, get_or, ◌||◌}
use Rattle.std.specs.List.{list_any}
use Rattle.mst_edits.proofs.trees.seen_in.Given as goal

-- the trees up to the next have their flags
abbrev pub invariant-loop-tree : goal.invariant-loop-tree
invariant-loop-tree l = record {
  long : length l.seen ≡ 4095;
  seen : (tree : ℕ) → tree < 4095 → get_or l.seen tree false ≡ list_any (λ t. t == tree) (take l.tree-index l.left);
}

abbrev pub invariant-loop-other : goal.invariant-loop-other
invariant-loop-other l = record {
  long : length l.seen ≡ 4095;
  seen : (tree : ℕ) → tree < 4095 → get_or l.seen tree false ≡ (list_any (λ t. t == tree) l.left || list_any (λ t. t == tree) (take l.other-index l.right));
}
