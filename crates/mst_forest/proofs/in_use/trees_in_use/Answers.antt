use Rattle.std.proofs.Common.{false, refl}
use Rattle.std.proofs.lemmas.List.{get_or-replicate}
use Rattle.mst_forest.proofs.in_use.trees_in_use.Goals as goal

pub loop-bridge-init : goal.loop-bridge-init
loop-bridge-init c = record { long = refl; used = λ tree small. get_or-replicate 4095 tree false false small }
