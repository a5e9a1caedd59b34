use Rattle.std.proofs.Common.{false, refl}
use Rattle.std.proofs.lemmas.List.{get_or-replicate}
use Rattle.mst_edits.proofs.trees.seen_in.Goals as goal

pub loop-tree-init : goal.loop-tree-init
loop-tree-init c = record { long = refl; seen = λ tree small. get_or-replicate 4095 tree false false small }
