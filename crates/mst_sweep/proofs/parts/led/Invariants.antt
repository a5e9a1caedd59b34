use Rattle.std.proofs.Common.{◌≡◌, map, take}
use Rattle.std.specs.List.{flat_map}
use Rattle.mst_sweep.specs.Parts.{part_led}
use Rattle.mst_sweep.proofs.parts.led.Given as goal

-- the parts of the bridges so far
abbrev pub invariant-loop-bridge : goal.invariant-loop-bridge
invariant-loop-bridge l = map (λ names. names.items) l.parts.items ≡ flat_map (part_led l.all) (take l.bridge-index l.all)
