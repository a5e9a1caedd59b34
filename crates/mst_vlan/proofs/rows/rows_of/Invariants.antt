use Rattle.std.proofs.Common.{◌≡◌, ◌+◌, map, take}
use Rattle.mst_vlan.specs.Kept.{seen_row}
use Rattle.mst_vlan.proofs.rows.rows_of.Given as goal

-- the flags for the VIDs so far
abbrev pub invariant-loop-place : goal.invariant-loop-place
invariant-loop-place l = map (λ row. row.items) l.rows.items ≡ map (λ place. seen_row l.view l.forest (place + 1)) (take l.place-index l.places)
