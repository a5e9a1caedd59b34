-- A walk with a cost is a walk.
use Rattle.std.proofs.Common.{inl, inr, refl, ap, ℕ}
use Rattle.mst_topology.specs.Topology.{TreePort}
use Rattle.mst_graph.specs.Walks.{Walk, stay, along, bridge_at, lan_at}
use Rattle.mst_graph.proofs.Walks.{joined_to}
use Rattle.mst_nested.specs.Ports.{port_ends}
use Rattle.mst_nested.specs.Costs.{CostWalk, at_start, enter}

-- a walk with a cost is a walk
pub walk_of : {N L K P : Type 0} {IsPort : TreePort N L K P → Type 0} {cost : P → ℕ} {a b : N} {c : ℕ} → CostWalk IsPort cost a b c → Walk (port_ends {L = L} {K = K} {P = P}) IsPort (bridge_at a) (bridge_at b)
walk_of at_start = stay
walk_of (enter walk out into is_out is_into on lan) = joined_to port_ends (walk_of walk) (along out is_out (inl (ap bridge_at on, refl)) (along into is_into (inr (ap lan_at lan, refl)) stay))
