-- Bridges and LANs in parts, joined by ports that have a role inside a part or lead out of it.
use Rattle.std.specs.Prelude.{◌≡◌, ◌≢◌, ◌⊎◌, ℕ, ◌+◌, ◌*◌, ◌<◌}
use Rattle.mst_topology.specs.Topology.{TreePort}
use Rattle.mst_graph.specs.Walks.{Node, bridge_at, lan_at}
use Rattle.mst_graph.specs.TreesInParts.{Levels}

pub record Places (N L : Type 0) : Type 0 where
  -- the part of a bridge or a LAN, and how far down that part is
  pub part : Node N L → ℕ
  pub height : Node N L → ℕ
  -- how far down a bridge's vector is in its part; of a LAN, that of its designated bridge
  pub lead : Node N L → ℕ

-- a LAN is just below the bridge of its designated port
abbrev pub place_rank : {N L : Type 0} → Places N L → Node N L → ℕ
place_rank q (bridge_at b) = 2 * q.lead (bridge_at b)
place_rank q (lan_at l) = 2 * q.lead (lan_at l) + 1

abbrev pub levels : {N L : Type 0} → Places N L → Levels (Node N L)
levels q = record { part = q.part; rank = place_rank q; height = q.height }

module _ {N L K P : Type 0} (q : Places N L) where
  -- the port's two ends are in one part
  abbrev pub IsInside : TreePort N L K P → Type 0
  IsInside e = q.part (bridge_at e.bridge) ≡ q.part (lan_at e.lan)

  abbrev pub IsAcross : TreePort N L K P → Type 0
  IsAcross e = q.part (bridge_at e.bridge) ≢ q.part (lan_at e.lan)

  -- what roles give of the active ports of one VID
  pub record HasRoles (Active Root Designated : TreePort N L K P → Type 0) : Type 0 where
    -- inside a part
    pub role : (e : TreePort N L K P) → Active e → IsInside e → Designated e ⊎ Root e
    pub one_root_port : (e f : TreePort N L K P) → Root e → Root f → e.bridge ≡ f.bridge → e ≡ f
    pub one_designated : (e f : TreePort N L K P) → Designated e → Designated f → e.lan ≡ f.lan → e ≡ f
    pub designated_lead : (e : TreePort N L K P) → Designated e → q.lead (lan_at e.lan) ≡ q.lead (bridge_at e.bridge)
    pub root_lead : (e : TreePort N L K P) → Root e → q.lead (lan_at e.lan) < q.lead (bridge_at e.bridge)
    -- out of a part
    pub one_exit : (e f : TreePort N L K P) → Active e → Active f → IsAcross e → IsAcross f → q.part (bridge_at e.bridge) ≡ q.part (bridge_at f.bridge) → e ≡ f
    pub falls : (e : TreePort N L K P) → Active e → IsAcross e → q.height (lan_at e.lan) < q.height (bridge_at e.bridge)
    pub same_height : (x y : Node N L) → q.part x ≡ q.part y → q.height x ≡ q.height y

  -- the designated port of a LAN, of a bridge of its part
  pub record LanWay (Active Designated : TreePort N L K P → Type 0) (e : TreePort N L K P) : Type 0 where
    pub port : TreePort N L K P
    pub is_active : Active port
    pub is_designated : Designated port
    pub on_lan : port.lan ≡ e.lan
    pub same_part : q.part (bridge_at port.bridge) ≡ q.part (lan_at e.lan)

  -- the root port of a bridge, to a LAN of its part
  pub record BridgeWay (Active Root : TreePort N L K P → Type 0) (e : TreePort N L K P) : Type 0 where
    pub port : TreePort N L K P
    pub is_active : Active port
    pub is_root : Root port
    pub on_bridge : port.bridge ≡ e.bridge
    pub same_part : q.part (lan_at port.lan) ≡ q.part (bridge_at e.bridge)

  -- the active port out of a bridge's part
  pub record WayOut (Active : TreePort N L K P → Type 0) (e : TreePort N L K P) : Type 0 where
    pub port : TreePort N L K P
    pub is_active : Active port
    pub own : q.part (bridge_at port.bridge) ≡ q.part (bridge_at e.bridge)
    pub other : q.part (lan_at port.lan) ≢ q.part (bridge_at e.bridge)

  -- what roles give of the enabled ports: group is one number for each connected set, that of its top part
  pub record HasRoleTops (Enabled Active Root Designated : TreePort N L K P → Type 0) (group : Node N L → ℕ) (IsRoot : N → Type 0) : Type 0 where
    pub enabled : (e : TreePort N L K P) → Active e → Enabled e
    pub lan_way : (e : TreePort N L K P) → Enabled e → LanWay Active Designated e
    pub bridge_way : (e : TreePort N L K P) → Enabled e → BridgeWay Active Root e ⊎ IsRoot e.bridge
    pub one_root : (b c : N) → q.part (bridge_at b) ≡ q.part (bridge_at c) → IsRoot b → IsRoot c → b ≡ c
    pub way_out : (e : TreePort N L K P) → Enabled e → WayOut Active e ⊎ (q.part (bridge_at e.bridge) ≡ group (bridge_at e.bridge))
    pub one_group : (e : TreePort N L K P) → Enabled e → group (bridge_at e.bridge) ≡ group (lan_at e.lan)
