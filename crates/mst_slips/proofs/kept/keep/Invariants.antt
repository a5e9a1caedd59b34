use Rattle.std.proofs.Common.{◌≡◌, ℕ, List, filter, take}
use Rattle.mst_view.specs.Aggregation.{same_name}
use Rattle.mst_slips.specs.Kept.{kept_at}
use Rattle.mst_slips.proofs.kept.keep.Given as goal

-- the ports before the next
abbrev pub invariant-loop-port : goal.invariant-loop-port
invariant-loop-port l = record {
  lans : (lan : List ℕ) → kept_at l.by_lan lan ≡ filter (λ p. same_name p.lan lan) (take l.port-index l.ports);
  bridges : (bridge : List ℕ) → kept_at l.by_bridge bridge ≡ filter (λ p. same_name p.name.bridge bridge) (take l.port-index l.ports);
}
