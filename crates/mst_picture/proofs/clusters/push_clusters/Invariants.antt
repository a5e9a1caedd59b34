use Rattle.std.proofs.Common.{◌≤◌, take}
use Rattle.mst_graph.specs.Lists.{has_any}
use Rattle.mst_picture.specs.InView.{cluster_of}
use Rattle.mst_picture.proofs.Numbered.{AreDrawn}
use Rattle.mst_picture.proofs.clusters.push_clusters.Given as goal

-- no more than the islands so far, of which those with a bridge are drawn
abbrev pub invariant-loop-island : goal.invariant-loop-island
invariant-loop-island l = record {
  few : l.count ≤ l.island-index;
  drawn : AreDrawn (cluster_of l.plan l.vid) (λ island. has_any island.bridges) (take l.island-index l.islands) l.fn.out.items l.out.items l.count;
}
