use Rattle.std.proofs.Common.{take}
use Rattle.mst_tables.specs.ByTree.{vlans_in}
use Rattle.mst_classes.proofs.Gathered.{MetSoFar}
use Rattle.mst_classes.proofs.distinct.meet_sets.Given as goal

abbrev pub invariant-loop-port : goal.invariant-loop-port
invariant-loop-port l = MetSoFar (λ p. vlans_in l.view.settings.vlans p.name) (take l.port-index l.view.ports) l.fn.met.keys l.met.keys
