use Rattle.std.proofs.Common.{◌≡◌}
use Rattle.std.specs.List.{flat_map, range_with_len}
use Rattle.mst_roles.specs.forest.Settled.{outcome_of}
use Rattle.mst_changes.specs.Kept.{entries_in}
use Rattle.mst_changes.specs.Stored.{kept_of}
use Rattle.mst_changes.proofs.entries.Entries.new.Given as goal

-- the entries of the trees so far
abbrev pub invariant-loop-number : goal.invariant-loop-number
invariant-loop-number l = kept_of l.plan.view l.trees.items ≡ flat_map (entries_in l.plan.net (outcome_of l.plan)) (range_with_len 0 l.number)
