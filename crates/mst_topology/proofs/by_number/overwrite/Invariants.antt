use Rattle.std.proofs.Common.{◌≡◌}
use Rattle.std.specs.Map.{keys_of}
use Rattle.mst_topology.proofs.Loaded.{IsOverwritten}
use Rattle.mst_topology.proofs.by_number.overwrite.Given as goal

abbrev pub invariant-loop-number : goal.invariant-loop-number
invariant-loop-number g l = record {
  values : IsOverwritten l.fn.table l.table l.other l.number;
  keys : keys_of l.table ≡ keys_of l.fn.table;
}
