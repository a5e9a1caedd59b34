use Rattle.std.proofs.Common.{◌≡◌, map, take}
use Rattle.std.specs.List.{flat_map}
use Rattle.mst_diff.specs.Seen.{region_of, row_of_region}
use Rattle.mst_diff.proofs.regions.changed.Given as goal

-- the rows of the bridges so far
abbrev pub invariant-loop-bridge : goal.invariant-loop-bridge
invariant-loop-bridge l = map row_of_region l.changes.items ≡ flat_map (region_of l.old.net l.new.net) (take l.bridge-index l.both)
