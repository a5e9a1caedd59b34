-- Places of logical ports in a view, counted from 0.
use Rattle.std.specs.Prelude.{ℕ, ◌||◌, Bool, false, not, List, Option, None, Some, filter, fold, length, slice_get, if◌then◌else◌}
use Rattle.std.specs.List.{range_with_len}
use Rattle.std.specs.Option.{option_map_or, unwrap_or}
use Rattle.mst_view.specs.Aggregation.{same_name}
use Rattle.mst_view.specs.Viewed.{Viewed}
use Rattle.mst_vlan.specs.forest.Forest.{Forest}
use Rattle.mst_vlan.specs.Carried.{seen_is_link}
use Rattle.mst_summary.specs.declared.crossing.Crossing.{Crossing}

-- the port at a place is on a logical LAN
abbrev pub is_on : Viewed → List ℕ → ℕ → Bool
is_on v lan place = option_map_or (λ p. same_name p.lan lan) (slice_get v.ports place) false

-- the places of the ports of a logical LAN
abbrev pub places_on : Viewed → List ℕ → List ℕ
places_on v lan = filter (is_on v lan) (range_with_len 0 (length v.ports))

-- ---- ports of two bridges, one port after another
abbrev pub no_port : Crossing
no_port = record { first = None; is_of_two = false }

-- with a port of this bridge
abbrev pub with_bridge : Crossing → List ℕ → Crossing
with_bridge c bridge = record {
  first = Some (unwrap_or c.first bridge);
  is_of_two = c.is_of_two || option_map_or (λ first. not (same_name bridge first)) c.first false;
}

-- with the port at a place, if that carries the VID
abbrev pub with_place : Viewed → Forest → ℕ → Crossing → ℕ → Crossing
with_place v f vid c place = option_map_or (λ p. if seen_is_link v f vid p then with_bridge c p.name.bridge else c) (slice_get v.ports place) c

-- with those at these places
abbrev pub with_places : Viewed → Forest → ℕ → List ℕ → Crossing
with_places v f vid places = fold (with_place v f vid) no_port places
