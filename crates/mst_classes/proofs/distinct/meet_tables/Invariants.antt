use Rattle.std.proofs.Common.{take}
use Rattle.mst_tables.specs.ByTree.{table_in}
use Rattle.mst_classes.proofs.Gathered.{MetSoFar}
use Rattle.mst_classes.proofs.distinct.meet_tables.Given as goal

abbrev pub invariant-loop-bridge : goal.invariant-loop-bridge
invariant-loop-bridge l = MetSoFar (λ b. table_in l.view.settings.tables b.name) (take l.bridge-index l.view.bridges) l.fn.met.keys l.met.keys
