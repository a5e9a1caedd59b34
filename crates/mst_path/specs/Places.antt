-- Paths by the places of ports in a list. Each port joins two nodes, those of its bridge and of its logical LAN.
use Rattle.std.specs.Prelude.{◌≡◌, ◌≢◌, ◌↔◌, ◌⊎◌, ◌+◌, ◌<◌, ◌≤◌, ℕ, List, [], ◌∷◌, Option, None, Vec, length, map, nat_eq, slice_index, slice_index_or}
use Rattle.std.specs.List.{Contains, count_by}
use Rattle.std.specs.Global.{Global}
use Rattle.std.specs.Option.{option_map}
use Rattle.std.specs.Ordering.{nat_cmp, ordering_then}
use Rattle.std.specs.Cmp.Lexicographic.{slice_cmp}
use Rattle.std.specs.declared.cmp.Ordering.{Ordering}
use Rattle.std.specs.declared.cmp.Ordering.TheVariants.{Greater, Less}
use Rattle.mst_graph.specs.Groups.{StandOnce}
use Rattle.mst_ids.specs.Names.{port_cmp}
use Rattle.mst_view.specs.View.{LogicalPort}
use Rattle.mst_view.specs.Viewed.{named_port}
use Rattle.mst_view.specs.declared.in_view.PortInView.{PortInView}
use Rattle.mst_path.specs.Paths.{Hop as HopByName, IsHopCount}
use Rattle.mst_path.specs.declared.hop.Hop.{Hop}
use Rattle.mst_path.specs.declared.hop.PlaceHop.{PlaceHop}

-- a hop by the names of its ports, and hops
abbrev pub named_hop : Hop → HopByName
named_hop h = record { leaving = named_port h.leaving; arriving = named_port h.arriving }

abbrev pub named_path : Option (Vec Hop Global) → Option (List HopByName)
named_path path = option_map (λ hops. map named_hop hops.items) path

-- the names of the bridges and of the logical LANs of ports
abbrev pub bridge_names : List PortInView → List (List ℕ)
bridge_names ports = map (λ p. p.name.bridge) ports

abbrev pub lan_names : List PortInView → List (List ℕ)
lan_names ports = map (λ p. p.lan) ports

-- the name of the bridge of the port at a place, and the hop of the ports at two places, where d stands for one that isn't there
abbrev pub bridge_at : List PortInView → ℕ → List ℕ
bridge_at ports place = slice_index_or (bridge_names ports) place []

abbrev pub hop_named_at : List PortInView → LogicalPort → PlaceHop → HopByName
hop_named_at ports d h = record { leaving = slice_index_or (map named_port ports) h.leaving d; arriving = slice_index_or (map named_port ports) h.arriving d }

-- ports stand by bridge and number
abbrev pub IsRising : List PortInView → Type 0
IsRising ports = (i j : ℕ) → i < j → j < length ports → (d : PortInView) → port_cmp (slice_index_or ports i d).name (slice_index_or ports j d).name ≡ Less

-- for each port, how many hops the path over these ports has from its bridge to bridge b, or none where there is no path
pub record AreHopCounts (ports : List PortInView) (b : List ℕ) (counts : List (Option ℕ)) : Type 0 where
  pub as_long : length counts ≡ length ports
  pub each : (place : ℕ) → place < length ports → IsHopCount (map named_port ports) (bridge_at ports place) b (slice_index_or counts place None)

-- ---- nodes
-- the nodes of the ports' bridges and of their logical LANs
pub record AreNodes (bridges lans : List ℕ) (count : ℕ) : Type 0 where
  pub as_long : length lans ≡ length bridges
  pub bridges_below : (place : ℕ) → place < length bridges → slice_index bridges place < count
  pub lans_below : (place : ℕ) → place < length bridges → slice_index lans place < count

-- no node is that of a bridge and of a logical LAN
abbrev pub AreApart : List ℕ → List ℕ → Type 0
AreApart bridges lans = (i j : ℕ) → i < length bridges → j < length bridges → slice_index bridges i ≢ slice_index lans j

-- there is one for each name
pub record AreNodesOf (ports : List PortInView) (bridges lans : List ℕ) (count : ℕ) : Type 0 where
  pub nodes : AreNodes bridges lans count
  pub for_each : length bridges ≡ length ports
  pub one_bridge : (i j : ℕ) → i < length ports → j < length ports → (slice_index bridges i ≡ slice_index bridges j) ↔ (bridge_at ports i ≡ bridge_at ports j)
  pub one_lan : (i j : ℕ) → i < length ports → j < length ports → (slice_index lans i ≡ slice_index lans j) ↔ (slice_index_or (lan_names ports) i [] ≡ slice_index_or (lan_names ports) j [])
  pub apart : AreApart bridges lans

-- ---- the order of paths: by the number of hops, where each arrives, and where it leaves
abbrev pub place_hop_cmp : PlaceHop → PlaceHop → Ordering
place_hop_cmp h k = ordering_then (nat_cmp h.arriving k.arriving) (nat_cmp h.leaving k.leaving)

abbrev pub place_path_cmp : List PlaceHop → List PlaceHop → Ordering
place_path_cmp hops others = ordering_then (nat_cmp (length hops) (length others)) (slice_cmp place_hop_cmp hops others)

module _ (bridges lans : List ℕ) where
  -- the port at a place joins node x to node y
  abbrev pub Joins : ℕ → ℕ → ℕ → Type 0
  Joins place x y = ((slice_index bridges place ≡ x) × (slice_index lans place ≡ y)) ⊎ ((slice_index lans place ≡ x) × (slice_index bridges place ≡ y))

  -- the place is that of a port of the node
  abbrev pub Touches : ℕ → ℕ → Type 0
  Touches x place = (place < length bridges) × ((slice_index bridges place ≡ x) ⊎ (slice_index lans place ≡ x))

  -- the lists of the places of each node's ports, of the places up to one
  pub record AreTouching (count up_to : ℕ) (lists : List (List ℕ)) : Type 0 where
    pub as_long : length lists ≡ count
    pub own : (x place : ℕ) → Contains (slice_index_or lists x []) place → Touches x place
    pub all : (place : ℕ) → place < up_to → Contains (slice_index_or lists (slice_index bridges place) []) place × Contains (slice_index_or lists (slice_index lans place) []) place

  -- ---- how deep nodes lie below a root
  -- the port at the place leads from node x to one that lies one less deep
  pub record LeadsOn (depths : List ℕ) (x place : ℕ) : Type 0 where
    pub below : place < length bridges
    pub next : ℕ
    pub joins : Joins place x next
    pub reached : 0 < slice_index depths next
    pub less : slice_index depths next + 1 ≡ slice_index depths x

  -- what the port at the place joins node x to is reached, and lies one deeper at most
  abbrev pub Reaches : List ℕ → ℕ → ℕ → Type 0
  Reaches depths x place = (y : ℕ) → Joins place x y → (0 < slice_index depths y) × (slice_index depths y ≤ slice_index depths x + 1)

  -- a node that is reached is this one, or a port leads on from it
  abbrev pub IsLed : List ℕ → ℕ → Type 0
  IsLed depths root = (x : ℕ) → 0 < slice_index depths x → (x ≡ root) ⊎ ((place : ℕ) × LeadsOn depths x place)

  -- the nodes reached from the first one of the queue, in which each of them stands, by their depths
  pub record IsSearched (depths queue : List ℕ) : Type 0 where
    pub leads : IsLed depths (slice_index queue 0)
    pub some : 0 < length queue
    pub first : slice_index depths (slice_index queue 0) ≡ 1
    pub nodes : (i : ℕ) → i < length queue → slice_index queue i < length depths
    pub each : (x : ℕ) → 0 < slice_index depths x → (i : ℕ) × (i < length queue) × (slice_index queue i ≡ x)
    pub ranked : (i : ℕ) → i < length queue → 0 < slice_index depths (slice_index queue i)
    pub rising : (i j : ℕ) → i ≤ j → j < length queue → slice_index depths (slice_index queue i) ≤ slice_index depths (slice_index queue j)
    pub low : (x : ℕ) → slice_index depths x ≤ length queue
    pub room : length queue + count_by (nat_eq 0) depths ≡ length depths

  -- the search came to an end
  pub record IsTree (root : ℕ) (depths : List ℕ) : Type 0 where
    pub leads : IsLed depths root
    pub first : slice_index depths root ≡ 1
    pub reaches : (x place : ℕ) → Touches x place → 0 < slice_index depths x → Reaches depths x place

  -- ---- by which port frames go on from each node
  -- off a logical LAN: by the first port that leads on
  pub record IsFirstOff (depths : List ℕ) (lan up : ℕ) : Type 0 where
    pub leads : LeadsOn depths lan up
    pub first : (place : ℕ) → LeadsOn depths lan place → up ≤ place

  -- the one port's hop arrives before the other's, or at the same port and the one comes before the other
  abbrev pub IsBefore : List ℕ → ℕ → ℕ → Type 0
  IsBefore ups up place =
      (slice_index ups (slice_index lans up) < slice_index ups (slice_index lans place)) ⊎ ((slice_index ups (slice_index lans up) ≡ slice_index ups (slice_index lans place)) × (up ≤ place))

  -- on to a logical LAN: by the port that leads on whose hop is the first
  pub record IsFirstOn (depths ups : List ℕ) (bridge up : ℕ) : Type 0 where
    pub leads : LeadsOn depths bridge up
    pub first : (place : ℕ) → LeadsOn depths bridge place → IsBefore ups up place

  -- this of each logical LAN of a port, and of each bridge of one, from which a port leads on
  abbrev pub AreFirstOff : List ℕ → List ℕ → Type 0
  AreFirstOff depths ups = (place : ℕ) → LeadsOn depths (slice_index lans place) place → IsFirstOff depths (slice_index lans place) (slice_index ups (slice_index lans place))

  abbrev pub AreFirstOn : List ℕ → List ℕ → Type 0
  AreFirstOn depths ups = (place : ℕ) → LeadsOn depths (slice_index bridges place) place → IsFirstOn depths ups (slice_index bridges place) (slice_index ups (slice_index bridges place))

  pub record AreWaysOn (depths ups : List ℕ) : Type 0 where
    pub as_long : length ups ≡ length depths
    pub off : AreFirstOff depths ups
    pub on : AreFirstOn depths ups

  -- ---- hops by places
  pub record IsPlaceHop (h : PlaceHop) : Type 0 where
    pub leaving : h.leaving < length bridges
    pub arriving : h.arriving < length bridges
    pub one_lan : slice_index lans h.leaving ≡ slice_index lans h.arriving
    pub two_bridges : slice_index bridges h.leaving ≢ slice_index bridges h.arriving

  abbrev pub IsPlaceWay : ℕ → ℕ → List PlaceHop → Type 0
  IsPlaceWay x y [] = x ≡ y
  IsPlaceWay x y (h ∷ hops) = IsPlaceHop h × (slice_index bridges h.leaving ≡ x) × IsPlaceWay (slice_index bridges h.arriving) y hops

  abbrev pub end_nodes : List PlaceHop → List ℕ
  end_nodes hops = map (λ (h : PlaceHop). slice_index bridges h.arriving) hops

  abbrev pub lan_nodes : List PlaceHop → List ℕ
  lan_nodes hops = map (λ (h : PlaceHop). slice_index lans h.leaving) hops

  -- a path between two nodes of bridges
  pub record IsPlacePath (x y : ℕ) (hops : List PlaceHop) : Type 0 where
    pub way : IsPlaceWay x y hops
    pub bridges_once : StandOnce (x ∷ end_nodes hops)
    pub lans_once : StandOnce (lan_nodes hops)

  -- and the first one
  pub record IsFirstPlacePath (x y : ℕ) (hops : List PlaceHop) : Type 0 where
    pub path : IsPlacePath x y hops
    pub first : (others : List PlaceHop) → IsPlacePath x y others → place_path_cmp hops others ≢ Greater

  -- the node is that of a bridge
  abbrev pub IsBridgeNode : ℕ → Type 0
  IsBridgeNode x = (place : ℕ) × (place < length bridges) × (slice_index bridges place ≡ x)

-- more was reached, and the queue is longer
pub record IsGrown (depths queue new_depths new_queue : List ℕ) : Type 0 where
  pub as_long : length new_depths ≡ length depths
  pub reached : (x : ℕ) → 0 < slice_index depths x → slice_index new_depths x ≡ slice_index depths x
  pub longer : length queue ≤ length new_queue
  pub front : (i : ℕ) → i < length queue → slice_index new_queue i ≡ slice_index queue i

-- nothing changed for bridges, or for logical LANs, of which these are the nodes of the ports' logical LANs, or of their bridges
abbrev pub StaysBeside : List ℕ → List ℕ → List ℕ → Type 0
StaysBeside others ups new_ups = (x : ℕ) → ((place : ℕ) → place < length others → slice_index others place ≢ x) → slice_index new_ups x ≡ slice_index ups x
