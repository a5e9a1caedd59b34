use Rattle.std.proofs.Common.{◌≡◌, ◌<◌, ℕ, List, length, get_or}
use Rattle.mst_graph.specs.Labels.{HaveLabels, KeepLabels}
use Rattle.mst_graph.proofs.labels.root.Given as goal

-- the place so far has the label
abbrev pub invariant-up : goal.invariant-up
invariant-up l = record {
  kept : KeepLabels l.fn.parents l.parents;
  below : l.at < length l.parents;
  leads : (labels : List ℕ) → HaveLabels l.fn.parents labels → get_or labels l.at 0 ≡ get_or labels l.place 0;
}

-- it is less each time
abbrev pub decreases-up : goal.decreases-up
decreases-up l = l.at
