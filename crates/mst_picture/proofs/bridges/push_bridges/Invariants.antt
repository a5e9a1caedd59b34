use Rattle.std.proofs.Common.{◌≡◌, ◌++◌, take}
use Rattle.std.specs.List.{flat_map}
use Rattle.mst_picture.specs.InView.{bridge_of}
use Rattle.mst_picture.proofs.bridges.push_bridges.Given as goal

-- the bridges so far
abbrev pub invariant-loop-bridge : goal.invariant-loop-bridge
invariant-loop-bridge l = l.out.items ≡ l.fn.out.items ++ flat_map (bridge_of l.plan l.tree) (take l.bridge-index l.plan.view.bridges)
