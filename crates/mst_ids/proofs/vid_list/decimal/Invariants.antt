use Rattle.std.proofs.Common.{◌≡◌, ◌^◌, ◌<◌, take}
use Rattle.mst_ids.specs.Vids.{decimal_value}
use Rattle.mst_ids.proofs.vid_list.decimal.Given as goal

abbrev pub invariant-loop-digit : goal.invariant-loop-digit
invariant-loop-digit l = (l.value ≡ decimal_value (take l.digit-index l.digits)) × (l.value < 10 ^ l.digit-index)
