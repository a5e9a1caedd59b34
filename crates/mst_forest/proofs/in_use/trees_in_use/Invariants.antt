use Rattle.std.proofs.Common.{◌≡◌, ◌<◌, ℕ, false, length, take, get_or}
use Rattle.std.specs.List.{list_any}
use Rattle.mst_view.specs.Trees.{is_among}
use Rattle.mst_forest.specs.Seen.{trees_at}
use Rattle.mst_forest.proofs.in_use.trees_in_use.Given as goal

-- the trees of the bridges up to the next have their flags
abbrev pub invariant-loop-bridge : goal.invariant-loop-bridge
invariant-loop-bridge l = record {
  long : length l.used ≡ 4095;
  used : (tree : ℕ) → tree < 4095 → get_or l.used tree false ≡ list_any (λ b. is_among (trees_at l.view b.bridge.number) tree) (take l.bridge-index l.view.bridges);
}
