-- Ports as the edges of a graph of bridges and LANs.
use Rattle.mst_graph.specs.Walks.{Ends, Node, bridge_at, lan_at}
use Rattle.mst_topology.specs.Topology.{TreePort}

-- a port has two ends: its bridge and its LAN
abbrev pub port_ends : {N L K P : Type 0} → Ends (Node N L) (TreePort N L K P)
port_ends = record { from = λ p. bridge_at p.bridge; to = λ p. lan_at p.lan }
