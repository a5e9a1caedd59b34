use Rattle.std.proofs.Common.{◌≡◌, take}
use Rattle.mst_policy.specs.Leaving.{leaving_of}
use Rattle.mst_policy.proofs.leaving.Leaving.of.Given as goal

-- what the lines so far say
abbrev pub invariant-loop-line : goal.invariant-loop-line
invariant-loop-line l = l.lines.items ≡ leaving_of (take l.line-index l.policy)
