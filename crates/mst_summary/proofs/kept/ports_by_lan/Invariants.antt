use Rattle.std.proofs.Common.{◌≡◌, ℕ, List, filter, take}
use Rattle.mst_view.specs.Aggregation.{same_name}
use Rattle.mst_slips.specs.Kept.{kept_at}
use Rattle.mst_summary.proofs.kept.ports_by_lan.Given as goal

-- the ports before the next
abbrev pub invariant-loop-port : goal.invariant-loop-port
invariant-loop-port l = (lan : List ℕ) → kept_at l.kept lan ≡ filter (λ p. same_name p.lan lan) (take l.port-index l.view.ports)
