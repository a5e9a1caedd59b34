use Rattle.mst_path.proofs.Onward.{AreOff}
use Rattle.mst_path.proofs.leading.find_ways_off.Given as goal

-- the first ones of the ports so far
abbrev pub invariant-loop-place : goal.invariant-loop-place
invariant-loop-place l = AreOff l.bridges l.lans l.depths l.fn.ups l.ups l.place
