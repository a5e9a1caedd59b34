use Rattle.std.proofs.Common.{◌≡◌, ℕ, true, length, take}
use Rattle.std.specs.List.{Contains}
use Rattle.mst_reasons.specs.sweep.vlan.classes.Flags.{flag_at}
use Rattle.mst_judged.proofs.vids.classes_asked.Given as goal

-- the VIDs so far have their flags
abbrev pub invariant-loop-vid : goal.invariant-loop-vid
invariant-loop-vid l = record { as_long : length l.flags.items ≡ l.count; asked : (vid : ℕ) → Contains (take l.vid-index l.vid-items) vid → flag_at l.numbers l.flags.items vid ≡ true }
