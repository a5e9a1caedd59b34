use Rattle.std.proofs.Common.{◌≡◌}
use Rattle.std.specs.Map.{keys_of}
use Rattle.mst_topology.specs.Places.{option_at}
use Rattle.mst_topology.specs.Effects.{HearsAnew, IsMarked}
use Rattle.mst_topology.proofs.Effects.{Before}
use Rattle.mst_topology.proofs.designations.Designations.hear_marked.Given as goal

abbrev pub invariant-loop-entry : goal.invariant-loop-entry
invariant-loop-entry g l = record {
  heard : HearsAnew g.M.Metric.rules l.topology (option_at l.vectors) (option_at l.fn.self.ports) (option_at l.self.ports) (Before l.lans (IsMarked) l.entry-index);
  keys_same : keys_of l.self.ports ≡ keys_of l.fn.self.ports;
}
