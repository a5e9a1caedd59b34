-- The places of ports of bridges, and the spans between them.
use Rattle.std.specs.Prelude.{◌≡◌, ◌≢◌, ℕ, ◌<◌, List, Some, length, map}
use Rattle.std.specs.List.{Contains}
use Rattle.mst_path.specs.Paths.{IsHopCount}
use Rattle.mst_path.specs.Places.{bridge_at}
use Rattle.mst_tables.specs.Tables.{Net}
use Rattle.mst_view.specs.Viewed.{named_port}
use Rattle.mst_view.specs.declared.in_view.PortInView.{PortInView}
use Rattle.mst_path_judges.specs.declared.span.Span.{Span}
use Rattle.mst_judged.specs.reasons.sweep.vlan.Reach.{bridges_on}

-- the place of a port of a bridge that is on
pub record HasPlace (net : Net) (ports : List PortInView) (bridge : List ℕ) (place : ℕ) : Type 0 where
  pub below : place < length ports
  pub is : bridge_at ports place ≡ bridge
  pub on : Contains (bridges_on net) bridge

-- the bridge is off, or none of the ports is on it
abbrev pub HasNoPlace : Net → List PortInView → List ℕ → Type 0
HasNoPlace net ports bridge = (place : ℕ) → HasPlace net ports bridge place → ⊥

-- the place of a port whose bridge is one of these, and on
pub record IsPlaceOf (net : Net) (ports : List PortInView) (bridges : List (List ℕ)) (place : ℕ) : Type 0 where
  pub below : place < length ports
  pub own : Contains bridges (bridge_at ports place)
  pub on : Contains (bridges_on net) (bridge_at ports place)

-- for each of these bridges that is on and has a port the place of one, and no other place
pub record ArePlacesOf (net : Net) (ports : List PortInView) (bridges : List (List ℕ)) (places : List ℕ) : Type 0 where
  pub each : (place : ℕ) → Contains places place → IsPlaceOf net ports bridges place
  pub all : (bridge : List ℕ) → Contains bridges bridge → Contains (bridges_on net) bridge → (at : ℕ) → at < length ports → bridge_at ports at ≡ bridge
      → (place : ℕ) × Contains places place × (bridge_at ports place ≡ bridge)

-- a span from the bridge of the port at one of these places to that of the port at another of those, by the hops of the path between
pub record IsFoundSpan (ports : List PortInView) (froms tos : List ℕ) (s : Span) : Type 0 where
  pub from : ℕ
  pub to : ℕ
  pub begins : Contains froms from
  pub ends : Contains tos to
  pub first : s.from ≡ bridge_at ports from
  pub second : s.to ≡ bridge_at ports to
  pub two : s.from ≢ s.to
  pub hops : IsHopCount (map named_port ports) s.from s.to (Some s.hops)
