use Rattle.std.proofs.Common.{take}
use Rattle.mst_path_judges.specs.Longest.{ArePlacesOf}
use Rattle.mst_path_judges.proofs.longest.places.Given as goal

-- the places of the bridges so far
abbrev pub invariant-loop-bridge : goal.invariant-loop-bridge
invariant-loop-bridge l = ArePlacesOf l.plan.net l.ports (take l.bridge-index l.bridges) l.places.items
