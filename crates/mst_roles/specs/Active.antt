-- The active topology of a VID, by name.
use Rattle.std.specs.Prelude.{◌≡◌, ℕ, true, List, filter}
use Rattle.std.specs.List.{Contains}
use Rattle.mst_graph.specs.Walks.{Ends, Node, bridge_at, lan_at}
use Rattle.mst_graph.specs.Joined.{IsJoined, HasNoLoop}
use Rattle.mst_tables.specs.Tables.{Net}
use Rattle.mst_view.specs.View.{LogicalPort, view_ports}
use Rattle.mst_forest.specs.Outcome.{Outcome}
use Rattle.mst_roles.specs.Roles.{forwards_for}

-- the active ports of a VID: the logical ports that forward in their own bridge's tree of it, by bridge and number.
-- Which VLANs a port is a member of plays no part
abbrev pub active_ports : Net → Outcome → ℕ → List LogicalPort
active_ports net o vid = filter (forwards_for net o vid) (view_ports net)

-- a logical port has two ends: its bridge and its logical LAN
abbrev pub port_ends : Ends (Node (List ℕ) (List ℕ)) LogicalPort
port_ends = record { from = λ p. bridge_at p.name.bridge; to = λ p. lan_at p.lan }

-- a logical port of the network is enabled
abbrev pub IsEnabled : Net → LogicalPort → Type 0
IsEnabled net p = Contains (view_ports net) p × (p.is_enabled ≡ true)

-- these ports join what is enabled, without a loop
pub record JoinWithoutLoop (net : Net) (active : List LogicalPort) : Type 0 where
  -- a walk of active ports links the two ends of every enabled port
  pub joined : IsJoined port_ends (IsEnabled net) (Contains active)
  -- no walk of the other active ports links the two ends of an active one
  pub no_loop : HasNoLoop port_ends (Contains active)
