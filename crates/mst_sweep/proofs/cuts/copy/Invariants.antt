use Rattle.std.proofs.Common.{◌≡◌, map, take}
use Rattle.mst_sweep.proofs.cuts.copy.Given as goal

-- the copies so far
abbrev pub invariant-loop-names : goal.invariant-loop-names
invariant-loop-names l = map (λ names. names.items) l.copy.items ≡ map (λ names. names.items) (take l.names-index l.parts)
