use Rattle.std.proofs.Common.{◌≡◌, take}
use Rattle.std.specs.List.{filter_map}
use Rattle.mst_vlan.specs.Seen.{seen_bridge}
use Rattle.mst_vlan.proofs.named.bridge_names.Given as goal

-- the names so far
abbrev pub invariant-loop-bridge : goal.invariant-loop-bridge
invariant-loop-bridge l = l.names.items ≡ filter_map (seen_bridge l.view) (take l.bridge-index l.bridges)
