use Rattle.std.proofs.Common.{◌*◌, ◌-◌}
use Rattle.mst_tables.proofs.TableLemmas.{MapsBelow}
use Rattle.mst_tables.proofs.table.Table.map.Given as goal

-- the VIDs of the set are mapped in the blocks so far
abbrev pub invariant-loop-block : goal.invariant-loop-block
invariant-loop-block l = MapsBelow l.initial.self-inside.trees l.self-inside.trees l.vids l.tree (64 * l.block - 1)

-- and up to the next
abbrev pub invariant-loop-index : goal.invariant-loop-index
invariant-loop-index l = MapsBelow l.initial.self-inside.trees l.self-inside.trees l.vids l.tree l.index
