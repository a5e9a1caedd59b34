-- The bridges and the LANs among nodes.
use Rattle.std.specs.Prelude.{Option, Some, None}
use Rattle.mst_graph.specs.Walks.{Node, bridge_at, lan_at}

module _ {N L : Type 0} where
  abbrev pub bridge_in : Node N L → Option N
  bridge_in (bridge_at n) = Some n
  bridge_in (lan_at n) = None

  abbrev pub lan_in : Node N L → Option L
  lan_in (bridge_at n) = None
  lan_in (lan_at n) = Some n
