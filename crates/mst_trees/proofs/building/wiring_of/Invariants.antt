use Rattle.std.proofs.Common.{◌≡◌, ◌++◌}
use Rattle.mst_trees.proofs.building.wiring_of.Given as goal

-- the ports so far are on the wiring, and the others are to come
abbrev pub invariant-loop-port : goal.invariant-loop-port
invariant-loop-port g l = l.wiring ++ l.port-iterator.rest.items ≡ l.fn.ports.items
