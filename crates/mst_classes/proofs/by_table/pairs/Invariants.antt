use Rattle.mst_classes.proofs.Pairing.{PairsTo}
use Rattle.mst_classes.proofs.by_table.pairs.Given as goal

abbrev pub invariant-loop-place : goal.invariant-loop-place
invariant-loop-place l = PairsTo l.numbers l.others l.width l.keys.items l.place
