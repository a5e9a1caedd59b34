-- The way that frames of a VLAN take from one bridge to another, by name.
use Rattle.std.specs.Prelude.{◌≡◌, ◌≢◌, ℕ, List, [], ◌∷◌, length, map, filter, Option, None, Some}
use Rattle.std.specs.List.{Contains}
use Rattle.std.specs.Option.{option_map}
use Rattle.std.specs.Ordering.{nat_cmp, ordering_then}
use Rattle.std.specs.Cmp.Lexicographic.{slice_cmp}
use Rattle.std.specs.declared.cmp.Ordering.{Ordering}
use Rattle.std.specs.declared.cmp.Ordering.TheVariants.{Greater}
use Rattle.mst_graph.specs.Groups.{StandOnce}
use Rattle.mst_graph.specs.Islands.{Island}
use Rattle.mst_ids.specs.Names.{port_cmp}
use Rattle.mst_ids.specs.declared.name.PortName.{PortName}
use Rattle.mst_tables.specs.Tables.{Net}
use Rattle.mst_view.specs.View.{LogicalPort}
use Rattle.mst_vlan.specs.forest.Outcome.{Outcome}
use Rattle.mst_vlan.specs.roles.Active.{active_ports}
use Rattle.mst_vlan.specs.Reach.{bridges_on, is_member}

-- the ports that carry a VID: those of its active topology that are members of its VLAN
abbrev pub carrying : Net → Outcome → ℕ → List LogicalPort
carrying net o vid = filter (is_member net vid) (active_ports net o vid)

-- a port by which frames leave a bridge, and one by which they arrive at another
pub record Hop : Type 0 where
  pub leaving : LogicalPort
  pub arriving : LogicalPort

-- both are of these ports, on one logical LAN and on two bridges
pub record IsHop (ports : List LogicalPort) (h : Hop) : Type 0 where
  pub leaves : Contains ports h.leaving
  pub arrives : Contains ports h.arriving
  pub one_lan : h.leaving.lan ≡ h.arriving.lan
  pub two_bridges : h.leaving.name.bridge ≢ h.arriving.name.bridge

-- the first hop begins at bridge a, each other one where the hop before it ended, and the last one ends at bridge b
abbrev pub IsWay : List LogicalPort → List ℕ → List ℕ → List Hop → Type 0
IsWay ports a b [] = a ≡ b
IsWay ports a b (h ∷ hops) = IsHop ports h × (h.leaving.name.bridge ≡ a) × IsWay ports h.arriving.name.bridge b hops

-- where hops arrive, and the logical LANs that they take
abbrev pub ends_of : List Hop → List (List ℕ)
ends_of hops = map (λ (h : Hop). h.arriving.name.bridge) hops

abbrev pub lans_of : List Hop → List (List ℕ)
lans_of hops = map (λ (h : Hop). h.leaving.lan) hops

-- the bridges that a path from a meets, in its order
abbrev pub bridges_met : List ℕ → List Hop → List (List ℕ)
bridges_met a hops = a ∷ ends_of hops

-- a path: a way from a to b that meets no bridge twice, and takes no logical LAN twice. On a logical LAN of three bridges a frame goes
-- from one to another, and not by way of the third
pub record IsPath (ports : List LogicalPort) (a b : List ℕ) (hops : List Hop) : Type 0 where
  pub way : IsWay ports a b hops
  pub bridges_once : StandOnce (bridges_met a hops)
  pub lans_once : StandOnce (lans_of hops)

-- ---- the first of several
-- hops by the port where they arrive, and then by that where they leave
abbrev pub hop_cmp : Hop → Hop → Ordering
hop_cmp h k = ordering_then (port_cmp h.arriving.name k.arriving.name) (port_cmp h.leaving.name k.leaving.name)

-- paths by their number of hops, and then by the first hop in which they differ
abbrev pub path_cmp : List Hop → List Hop → Ordering
path_cmp hops others = ordering_then (nat_cmp (length hops) (length others)) (slice_cmp hop_cmp hops others)

-- a path before which no other one comes. Where no logical port's role is restricted there is no other one
pub record IsFirstPath (ports : List LogicalPort) (a b : List ℕ) (hops : List Hop) : Type 0 where
  pub path : IsPath ports a b hops
  pub first : (others : List Hop) → IsPath ports a b others → path_cmp hops others ≢ Greater

-- what the path over these ports is: the first one, or that there is none
abbrev pub IsPathOver : List LogicalPort → List ℕ → List ℕ → Option (List Hop) → Type 0
IsPathOver ports a b None = (hops : List Hop) → IsPath ports a b hops → ⊥
IsPathOver ports a b (Some hops) = IsFirstPath ports a b hops

-- how many hops it has, if there is one
pub record IsHopCount (ports : List LogicalPort) (a b : List ℕ) (count : Option ℕ) : Type 0 where
  pub path : Option (List Hop)
  pub is_path : IsPathOver ports a b path
  pub are : count ≡ option_map length path

-- ---- the path of a VID
pub record AreOn (net : Net) (a b : List ℕ) : Type 0 where
  pub first : Contains (bridges_on net) a
  pub second : Contains (bridges_on net) b

-- what the path of a VID from a to b is: that over the ports that carry it, where both are on, and else none
abbrev pub IsPathOf : Net → Outcome → ℕ → List ℕ → List ℕ → Option (List Hop) → Type 0
IsPathOf net o vid a b None = AreOn net a b → IsPathOver (carrying net o vid) a b None
IsPathOf net o vid a b (Some hops) = AreOn net a b × IsPathOver (carrying net o vid) a b (Some hops)

-- ---- what is told of a path
-- the ports of a hop, and its logical LAN
pub record HopTold : Type 0 where
  pub leaving : PortName
  pub lan : List ℕ
  pub arriving : PortName

abbrev pub hop_told : Hop → HopTold
hop_told h = record { leaving = h.leaving.name; lan = h.leaving.lan; arriving = h.arriving.name }

abbrev pub hops_told : List Hop → List HopTold
hops_told hops = map hop_told hops

-- two paths are the same where this is
abbrev pub path_told : Option (List Hop) → Option (List HopTold)
path_told path = option_map hops_told path

-- ---- islands
-- one of these islands has both bridges
pub record HasBoth (islands : List (Island (List ℕ) (List ℕ))) (a b : List ℕ) : Type 0 where
  pub island : Island (List ℕ) (List ℕ)
  pub listed : Contains islands island
  pub first : Contains island.bridges a
  pub second : Contains island.bridges b
