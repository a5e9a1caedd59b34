use Rattle.std.proofs.Common.{◌≡◌, ◌<◌, ℕ, List, get_or}
use Rattle.mst_graph.specs.Labels.{HaveLabels, KeepLabels}
use Rattle.mst_graph.proofs.labels.settle.Given as goal

-- the places so far have their labels as parents
abbrev pub invariant-loop-place : goal.invariant-loop-place
invariant-loop-place l = record {
  kept : KeepLabels l.fn.parents l.parents;
  settled : (labels : List ℕ) → HaveLabels l.fn.parents labels → (p : ℕ) → p < l.place → get_or l.parents p 0 ≡ get_or labels p 0;
}
