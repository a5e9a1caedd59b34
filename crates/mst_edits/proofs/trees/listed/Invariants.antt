use Rattle.std.proofs.Common.{◌≡◌, ◌-◌, ◌<◌, ℕ, Bool, false, get_or}
use Rattle.std.specs.List.{filter, range_with_len}
use Rattle.mst_edits.proofs.trees.listed.Given as goal

-- the trees up to the next that have flags
abbrev pub invariant-loop-number : goal.invariant-loop-number
invariant-loop-number l = (test : ℕ → Bool) → ((tree : ℕ) → tree < 4095 → get_or l.seen tree false ≡ test tree) → l.trees.items ≡ filter test (range_with_len l.from (l.number - l.from))
