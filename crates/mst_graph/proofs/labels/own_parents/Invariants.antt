use Rattle.mst_graph.proofs.Own.{Own}
use Rattle.mst_graph.proofs.labels.own_parents.Given as goal

-- the places so far are their own parents
abbrev pub invariant-loop-place : goal.invariant-loop-place
invariant-loop-place l = Own l.place l.parents.items
