use Rattle.std.proofs.Common.{ℕ, List, take}
use Rattle.mst_graph.specs.Places.{placed}
use Rattle.mst_graph.specs.Labels.{AreParents, HaveLabels}
use Rattle.mst_graph.specs.Labelling.{AreLabels}
use Rattle.mst_graph.proofs.labelling.labels_by.Given as goal

-- the parents give labels that are equal just where the links so far join the nodes
abbrev pub invariant-loop-link : goal.invariant-loop-link
invariant-loop-link l = record {
  parents : AreParents l.parents.items;
  labels : (labels : List ℕ) × HaveLabels l.parents.items labels × AreLabels (placed l.places.bridges) (placed l.places.lans) (take l.link-index l.links) labels;
}
