use Rattle.std.proofs.Common.{◌≡◌, take}
use Rattle.std.specs.Option.{ForSome}
use Rattle.std.specs.List.{filter}
use Rattle.mst_roles.specs.SeenRoles.{seen_forwards, seen_tree}
use Rattle.mst_roles.proofs.topology.forwarding_ports.Given as goal

-- of the ports so far those that forward are listed, and the tree that is known is that of its bridge
abbrev pub invariant-loop-port : goal.invariant-loop-port
invariant-loop-port l = record {
  ports : l.ports.items ≡ filter (seen_forwards l.view l.forest l.vid) (take l.port-index l.port-items);
  known : ForSome l.known (λ k. k.1 ≡ seen_tree l.view k.0 l.vid);
}
