use Rattle.std.proofs.Common.{◌≡◌, ◌++◌, take}
use Rattle.std.specs.List.{flat_map}
use Rattle.mst_picture.specs.InView.{lan_of}
use Rattle.mst_picture.proofs.lans.push_each.Given as goal

-- the LANs so far
abbrev pub invariant-loop-lan : goal.invariant-loop-lan
invariant-loop-lan l = l.out.items ≡ l.fn.out.items ++ flat_map (lan_of l.plan l.drawn) (take l.lan-index l.plan.view.lans)
