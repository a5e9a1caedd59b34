use Rattle.std.proofs.Common.{take}
use Rattle.mst_facts.specs.Both.{AreByName}
use Rattle.mst_facts.proofs.both.by_name.Given as goal

-- the bridges so far
abbrev pub invariant-loop-bridge : goal.invariant-loop-bridge
invariant-loop-bridge l = AreByName (take l.bridge-index l.bridges) l.named.entries
