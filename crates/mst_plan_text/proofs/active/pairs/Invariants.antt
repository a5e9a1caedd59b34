use Rattle.std.proofs.Common.{◌≡◌, map, take}
use Rattle.mst_plan_text.specs.Bodies.{seen_pair}
use Rattle.mst_plan_text.proofs.active.pairs.Given as goal

-- those so far
abbrev pub invariant-loop-port : goal.invariant-loop-port
invariant-loop-port l = l.pairs.items ≡ map (seen_pair l.view l.vid) (take l.port-index l.ports)
