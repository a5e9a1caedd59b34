use Rattle.std.proofs.Common.{◌≡◌, ℕ, List, filter, nat_eq, take}
use Rattle.std.specs.Cmp.Lexicographic.{pointwise}
use Rattle.mst_edits.specs.Homes.{kept_for}
use Rattle.mst_edits.proofs.homes.homes_of.Given as goal

abbrev pub invariant-loop-port : goal.invariant-loop-port
invariant-loop-port l = (bridge : List ℕ) → kept_for l.homes bridge ≡ filter (λ port. pointwise nat_eq bridge port.bridge) (take l.port-index l.ports)
