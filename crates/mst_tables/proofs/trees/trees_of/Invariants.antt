use Rattle.std.proofs.Common.{◌≡◌, ◌≤◌, ◌-◌}
use Rattle.std.specs.List.{filter, range_with_len}
use Rattle.mst_records.specs.Blocks.{in_block}
use Rattle.mst_tables.proofs.trees.trees_of.Given as goal

abbrev pub invariant-loop-number : goal.invariant-loop-number
invariant-loop-number l = record {
  listed : l.trees.items ≡ filter (in_block l.blocks) (range_with_len 0 l.number);
  within : l.number ≤ 4095;
}

abbrev pub decreases-loop-number : goal.decreases-loop-number
decreases-loop-number l = 4095 - l.number
