use Rattle.std.proofs.Common.{◌≡◌, length}
use Rattle.mst_vlan.specs.Kept.{HaveSameVlans}
use Rattle.mst_vlan.proofs.comparing.same_vlans.Given as goal

-- the ports so far have their flags
abbrev pub invariant-loop-place : goal.invariant-loop-place
invariant-loop-place l = record {
  same : HaveSameVlans l.old.view l.new.view l.flags.items;
  as_long : length l.flags.items ≡ l.place;
}
