use Rattle.mst_net.proofs.tables_lemmas.TableLemmas.{MapsBelow}
use Rattle.mst_edits.proofs.trees.map_vids.Given as goal

-- the VIDs up to the next are mapped
abbrev pub invariant-loop-index : goal.invariant-loop-index
invariant-loop-index l = MapsBelow l.fn.table l.table l.vids l.tree l.index
