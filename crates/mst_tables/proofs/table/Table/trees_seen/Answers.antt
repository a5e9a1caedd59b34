use Rattle.std.proofs.Common.{false, refl}
use Rattle.std.proofs.lemmas.List.{get_or-replicate}
use Rattle.mst_tables.proofs.table.Table.trees_seen.Goals as goal

pub loop-index-init : goal.loop-index-init
loop-index-init c = record { long = refl; seen = λ tree small. get_or-replicate 4095 tree false false small }
