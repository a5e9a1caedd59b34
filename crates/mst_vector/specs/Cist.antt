-- The priority vectors of the CIST (802.1Q-2022, 13.10): root, external root path cost, regional root,
-- internal root path cost, designated bridge, designated port, receiving port.
use Rattle.std.specs.Prelude.{ℕ, ◌+◌, List, [], ◌∷◌, ◌&&◌, ◌==◌, if◌then◌else◌}
use Rattle.std.specs.Ordering.{nat_cmp}
use Rattle.std.specs.Cmp.Lexicographic.{slice_cmp}
use Rattle.mst_vector.specs.Rules.{Rules, is_cost}
use Rattle.mst_vector.specs.declared.cist.CistVector.{CistVector}
use Rattle.mst_vector.specs.declared.cist.CistBridge.{CistBridge}
use Rattle.mst_vector.specs.declared.cist.CistPort.{CistPort}

-- the components in the order in which they count
abbrev pub cist_components : CistVector → List ℕ
cist_components x = x.root ∷ x.external ∷ x.regional ∷ x.internal ∷ x.designated ∷ x.port ∷ x.receiver ∷ []

-- those that count before the designated bridge
abbrev pub cist_leading : CistVector → List ℕ
cist_leading x = x.root ∷ x.external ∷ x.regional ∷ x.internal ∷ []

-- the bridge priority vector: the bridge is the root and the regional root, at no cost
abbrev pub cist_bridge_vector : CistBridge → CistVector
cist_bridge_vector b = record { root = b.id; external = 0; regional = b.id; internal = 0; designated = b.id; port = 0; receiver = 0 }

-- the designated priority vector of a port: the bridge's identifier and the port's stand for the designated ones
abbrev pub cist_designated_vector : CistVector → CistBridge → CistPort → CistVector
cist_designated_vector x b p = record x { designated = b.id; port = p.id }

-- a message from a bridge of the receiver's region: the receiving port's internal cost is added
abbrev pub within_region : CistVector → CistPort → CistVector
within_region x p = record x { internal = x.internal + p.internal; receiver = p.id }

-- the designated bridge that a receiver of another region sees: a bridge that runs RSTP takes the
-- sender's regional root for it
abbrev pub seen_bridge : CistVector → CistBridge → ℕ
seen_bridge x b = if b.is_rstp then x.regional else x.designated

-- a message from another region: the receiving port's external cost is added, and the receiver is its own
-- regional root
abbrev pub between_regions : CistVector → CistBridge → CistPort → CistVector
between_regions x b p =
    record x { external = x.external + p.external; regional = b.id; internal = 0; designated = seen_bridge x b; receiver = p.id }

-- the root path priority vector that bridge b makes of the message x of bridge s that its port p hears
abbrev pub cist_root_path_vector : CistVector → CistBridge → CistBridge → CistPort → CistVector
cist_root_path_vector x s b p = if s.region == b.region then within_region x p else between_regions x b p

abbrev pub cist_rules : Rules CistBridge CistPort CistVector
cist_rules = record {
  order = λ x y. slice_cmp nat_cmp (cist_components x) (cist_components y);
  leading = cist_leading;
  cost = λ x. x.external + x.internal;
  bridge_id = λ b. b.id;
  port_id = λ p. p.id;
  in_range = λ p. is_cost p.external && is_cost p.internal;
  bridge_vector = cist_bridge_vector;
  designated_vector = cist_designated_vector;
  root_path_vector = cist_root_path_vector;
}
