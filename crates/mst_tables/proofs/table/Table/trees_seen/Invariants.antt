use Rattle.std.proofs.Common.{◌≡◌, ◌<◌, ◌==◌, ℕ, false, length, take, get_or}
use Rattle.std.specs.List.{list_any}
use Rattle.mst_tables.proofs.table.Table.trees_seen.Given as goal

-- the trees of the VIDs up to the next have their flags
abbrev pub invariant-loop-index : goal.invariant-loop-index
invariant-loop-index l = record {
  long : length l.seen ≡ 4095;
  seen : (tree : ℕ) → tree < 4095 → get_or l.seen tree false ≡ list_any (λ t. t == tree) (take l.index l.self-inside.trees);
}
