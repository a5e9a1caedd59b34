-- The priority vectors of an MSTI (802.1Q-2022, 13.11): regional root, internal root path cost,
-- designated bridge, designated port, receiving port.
use Rattle.std.specs.Prelude.{ℕ, ◌+◌, List, [], ◌∷◌}
use Rattle.std.specs.Ordering.{nat_cmp}
use Rattle.std.specs.Cmp.Lexicographic.{slice_cmp}
use Rattle.mst_vector.specs.Rules.{Rules, is_cost}
use Rattle.mst_vector.specs.declared.msti.MstiVector.{MstiVector}
use Rattle.mst_vector.specs.declared.msti.MstiBridge.{MstiBridge}
use Rattle.mst_vector.specs.declared.msti.MstiPort.{MstiPort}

-- the components in the order in which they count
abbrev pub msti_components : MstiVector → List ℕ
msti_components x = x.regional ∷ x.internal ∷ x.designated ∷ x.port ∷ x.receiver ∷ []

-- those that count before the designated bridge
abbrev pub msti_leading : MstiVector → List ℕ
msti_leading x = x.regional ∷ x.internal ∷ []

-- the bridge priority vector: the bridge is the regional root, at no cost
abbrev pub msti_bridge_vector : MstiBridge → MstiVector
msti_bridge_vector b = record { regional = b.id; internal = 0; designated = b.id; port = 0; receiver = 0 }

-- the designated priority vector of a port: the bridge's identifier and the port's stand for the designated ones
abbrev pub msti_designated_vector : MstiVector → MstiBridge → MstiPort → MstiVector
msti_designated_vector x b p = record x { designated = b.id; port = p.id }

-- a root path priority vector: the receiving port's internal cost is added
abbrev pub msti_root_path_vector : MstiVector → MstiPort → MstiVector
msti_root_path_vector x p = record x { internal = x.internal + p.internal; receiver = p.id }

abbrev pub msti_rules : Rules MstiBridge MstiPort MstiVector
msti_rules = record {
  order = λ x y. slice_cmp nat_cmp (msti_components x) (msti_components y);
  leading = msti_leading;
  cost = λ x. x.internal;
  bridge_id = λ b. b.id;
  port_id = λ p. p.id;
  in_range = λ p. is_cost p.internal;
  bridge_vector = msti_bridge_vector;
  designated_vector = msti_designated_vector;
  root_path_vector = λ x s b p. msti_root_path_vector x p;
}
