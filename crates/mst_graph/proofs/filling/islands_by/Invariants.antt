use Rattle.std.proofs.Common.{◌≡◌, length, map, take}
use Rattle.mst_graph.specs.Places.{placed}
use Rattle.mst_graph.specs.Walks.{bridge_at}
use Rattle.mst_graph.specs.Islands.{nodes}
use Rattle.mst_graph.specs.Labelling.{label_of}
use Rattle.mst_graph.proofs.Filled.{Filled, HaveNoLan}
use Rattle.mst_graph.proofs.filling.islands_by.Given as goal

-- the bridges so far are in the islands, which have no LAN yet
abbrev pub invariant-loop-bridge : goal.invariant-loop-bridge
invariant-loop-bridge l = record {
  counts : length l.counts.items ≡ length l.labels;
  filled : Filled (label_of (placed l.places.bridges) (placed l.places.lans) l.labels) (map bridge_at (take l.bridge-index l.bridges)) l.counts.items l.islands.items;
  no_lan : HaveNoLan l.islands.items;
}

-- so are all bridges and the LANs so far
abbrev pub invariant-loop-lan : goal.invariant-loop-lan
invariant-loop-lan l = record {
  counts : length l.counts.items ≡ length l.labels;
  filled : Filled (label_of (placed l.places.bridges) (placed l.places.lans) l.labels) (nodes l.bridges (take l.lan-index l.lans)) l.counts.items l.islands.items;
}
