use Rattle.std.proofs.Common.{ℕ, ◌≡◌, ◌<◌, ◌+◌, get_or}
use Rattle.mst_classes.proofs.splitting.Splitting.are_apart.Given as goal

abbrev pub invariant-loop-place : goal.invariant-loop-place
invariant-loop-place l = (i : ℕ) → i < l.place → get_or l.self.numbers.items i 0 ≡ i + 1
