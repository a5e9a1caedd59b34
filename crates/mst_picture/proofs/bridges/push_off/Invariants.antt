use Rattle.std.proofs.Common.{◌≡◌, ◌++◌, take}
use Rattle.std.specs.List.{flat_map}
use Rattle.mst_picture.specs.InView.{off_of}
use Rattle.mst_picture.proofs.bridges.push_off.Given as goal

-- the bridges so far
abbrev pub invariant-loop-bridge : goal.invariant-loop-bridge
invariant-loop-bridge l = l.out.items ≡ l.fn.out.items ++ flat_map off_of (take l.bridge-index l.plan.view.bridges)
