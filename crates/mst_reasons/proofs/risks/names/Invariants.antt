use Rattle.std.proofs.Common.{◌≡◌, map, take}
use Rattle.mst_graph.specs.Lists.{each_once}
use Rattle.mst_view.specs.Aggregation.{same_name}
use Rattle.mst_reasons.proofs.risks.names.Given as goal

-- the names of the lines so far, each once
abbrev pub invariant-loop-n : goal.invariant-loop-n
invariant-loop-n l = l.names.keys ≡ each_once same_name (map (λ risk. risk.now.name) (take l.n l.lines))
