use Rattle.std.proofs.Common.{◌≡◌, map, filter, take}
use Rattle.mst_roles.specs.SeenRoles.{seen_forwards}
use Rattle.mst_vlan.specs.Seen.{seen_link, seen_member}
use Rattle.mst_vlan.proofs.carriage.Carriage.links.Given as goal

-- the links of the ports so far
abbrev pub invariant-loop-place : goal.invariant-loop-place
invariant-loop-place l = l.links.items ≡ map seen_link (filter (seen_member l.self.view l.vid) (filter (seen_forwards l.self.view l.self.forest l.vid) (take l.place l.ports)))
