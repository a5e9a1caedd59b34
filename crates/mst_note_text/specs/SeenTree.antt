-- What is seen of a tree, under the numbers of records: its bridges with their root priority vectors, and which of
-- its ports give a parent.
use Rattle.std.specs.Prelude.{ℕ, ◌==◌, Bool, not, true, false, List, [], filter_map, map, slice_get, slice_index_or, Option, Some, None, nat_eq, if◌then◌else◌}
use Rattle.std.specs.List.{find}
use Rattle.std.specs.Option.{option_map, option_map_or, option_and_then}
use Rattle.std.specs.Map.{lookup}
use Rattle.mst_vector.specs.declared.cist.CistVector.{CistVector}
use Rattle.mst_vector.specs.declared.msti.MstiVector.{MstiVector}
use Rattle.mst_roles.specs.forest.outcome.Assignment.{vector_of}
use Rattle.mst_view.specs.Viewed.{Viewed}
use Rattle.mst_view.specs.declared.in_view.BridgeInView.{BridgeInView}
use Rattle.mst_view.specs.declared.in_view.PortInView.{PortInView}
use Rattle.mst_roles.specs.forest.config.Shared.{same_in}
use Rattle.mst_roles.specs.forest.Forest.{msti_vector, designated_in, Forest}
use Rattle.mst_roles.specs.SeenRoles.{seen_role}
use Rattle.mst_roles.specs.declared.kind.Role.{Role}
use Rattle.mst_roles.specs.declared.kind.Role.TheVariants.{Root}
use Rattle.mst_note_text.specs.declared.children.Child.{Child}
use Rattle.mst_note_text.specs.declared.parent.Depths.{Depths}
use Rattle.mst_note_text.specs.declared.parent.Parent.{Parent}
use Rattle.mst_note_text.specs.declared.member.Member.{Member}
use Rattle.mst_note_text.specs.Places.{depths_at}

-- a bridge with its vector
abbrev pub cist_member : BridgeInView → CistVector → Member
cist_member b x = record { name = b.name; number = b.bridge.number; regional = x.regional; internal = x.internal; root_path = Some (record { root = x.root; external = x.external }) }

abbrev pub msti_member : BridgeInView → MstiVector → Member
msti_member b x = record { name = b.name; number = b.bridge.number; regional = x.regional; internal = x.internal; root_path = None }

abbrev pub seen_member : Forest → ℕ → BridgeInView → Option Member
seen_member f tree b = if tree == 0 then option_map (cist_member b) (vector_of f.cist b.bridge.number) else option_map (msti_member b) (msti_vector f tree b.bridge.number)

-- the bridges of the tree
abbrev pub members_in : Viewed → Forest → ℕ → List Member
members_in v f tree = filter_map (seen_member f tree) v.bridges

-- the name of the bridge at a place
abbrev pub name_at : List Member → ℕ → List ℕ
name_at members place = option_map_or (λ m. m.name) (slice_get members place) []

-- the port is the root port of its bridge
abbrev pub is_root : Option Role → Bool
is_root (Some Root) = true
is_root _ = false

abbrev pub is_root_port : Viewed → Forest → ℕ → PortInView → Bool
is_root_port v f tree q = is_root (seen_role v f tree q)

-- the port of the LAN's designated bridge
abbrev pub designated_at : Viewed → Forest → ℕ → PortInView → Option PortInView
designated_at v f tree q = option_and_then (λ k. find (λ r. k == r.number) v.ports) (designated_in f tree q.lan_number)

-- by the places of bridges: the place of the port's bridge, and its parent
abbrev pub parent_by : Forest → List (ℕ × ℕ) → PortInView → PortInView → Option (ℕ × Parent)
parent_by f places q r =
    option_and_then (λ place. option_map (λ parent. (place, record { place = parent; is_between = not (same_in f.regions q.bridge r.bridge) })) (lookup (nat_eq r.bridge) places)) (lookup (nat_eq q.bridge) places)

-- what a port gives, if it is a root port
abbrev pub given : Viewed → Forest → ℕ → List (ℕ × ℕ) → PortInView → Option (ℕ × Parent)
given v f tree places q = if is_root_port v f tree q then option_and_then (parent_by f places q) (designated_at v f tree q) else None

-- a parent, with no step between regions
abbrev pub as_within : Parent → Parent
as_within p = record { place = p.place; is_between = false }

abbrev pub all_within : List (Option Parent) → List (Option Parent)
all_within parents = map (option_map as_within) parents

-- the name of a parent
abbrev pub parent_name : List Member → Option Parent → Option (List ℕ)
parent_name members parent = option_and_then (λ p. option_map (λ m. m.name) (slice_get members p.place)) parent

-- the bridge at a place with its parent, by the parents' and the depths' places
abbrev pub child_at : List Member → List (Option Parent) → List Depths → ℕ → Child
child_at members parents depths place = record {
  name = name_at members place;
  parent = parent_name members (slice_index_or parents place None);
  steps = (depths_at depths place).internal;
}
