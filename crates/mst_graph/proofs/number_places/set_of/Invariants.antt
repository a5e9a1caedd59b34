use Rattle.std.proofs.Common.{◌≡◌, ℕ, true, nat_eq, take}
use Rattle.std.specs.List.{list_any}
use Rattle.mst_graph.proofs.number_places.set_of.Given as goal

-- the numbers so far are in the set
abbrev pub invariant-loop-number : goal.invariant-loop-number
invariant-loop-number l = (n : ℕ) → list_any (nat_eq n) (take l.number-index l.numbers) ≡ true → list_any (nat_eq n) l.set.keys ≡ true
