use Rattle.std.proofs.Common.{◌≡◌, ℕ, ◌<◌}
use Rattle.mst_vlan.specs.Kept.{link_at, seen_row, seen_vlans}
use Rattle.mst_vlan.proofs.comparing.some_differs.Given as goal

-- the ports so far carry the VID in both networks or in neither
abbrev pub invariant-loop-place : goal.invariant-loop-place
invariant-loop-place l =
    (i : ℕ) → i < l.place → link_at (seen_row l.old.view l.old.forest l.vid) (seen_vlans l.old.view) l.vid i ≡ link_at (seen_row l.new.view l.new.forest l.vid) (seen_vlans l.new.view) l.vid i
