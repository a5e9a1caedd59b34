use Rattle.std.proofs.Common.{◌≡◌, filter, take}
use Rattle.mst_classes.specs.Flags.{flag_at}
use Rattle.mst_classes.proofs.flagged_vids.flagged.Given as goal

-- those of the VIDs so far
abbrev pub invariant-loop-vid : goal.invariant-loop-vid
invariant-loop-vid l = l.flagged.items ≡ filter (flag_at l.numbers l.flags) (take l.vid-index l.vids)
