use Rattle.std.proofs.Common.{◌≡◌, take}
use Rattle.std.specs.List.{filter_map}
use Rattle.mst_vlan.specs.Seen.{seen_lan}
use Rattle.mst_vlan.proofs.named.lan_names.Given as goal

-- the names so far
abbrev pub invariant-loop-lan : goal.invariant-loop-lan
invariant-loop-lan l = l.names.items ≡ filter_map (seen_lan l.view) (take l.lan-index l.lans)
