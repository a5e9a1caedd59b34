use Rattle.std.proofs.Common.{◌≡◌, length, drop}
use Rattle.mst_policy.specs.Arguments.{items_of, name_item, names_value}
use Rattle.mst_policy.proofs.ListLemmas.{with_values}
use Rattle.mst_policy.proofs.arguments.names.Given as goal

-- the items so far, and those of the further parts behind them, are all
abbrev pub invariant-loop-part : goal.invariant-loop-part
invariant-loop-part l = with_values name_item l.items (drop (length l.yielded) (items_of l.word)) ≡ names_value l.word
