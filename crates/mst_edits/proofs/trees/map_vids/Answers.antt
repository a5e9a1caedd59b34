use Rattle.std.proofs.Common.{arith}
use Rattle.mst_net.proofs.tables_lemmas.TableLemmas.{all_mapped}
use Rattle.mst_edits.proofs.trees.map_vids.Goals as goal

pub returns : goal.returns
returns c = all_mapped c.args.table.now c.loop-index.table c.args.vids.now c.args.tree c.loop-index.index (omega arith) c.loop-index.invariant
