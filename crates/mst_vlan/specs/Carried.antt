-- Which logical ports carry a VID, and when the same do in two networks.
use Rattle.std.specs.Prelude.{◌≡◌, ℕ, ◌+◌, ◌<◌, ◌&&◌, Bool, false, List, length, map, filter, slice_index, slice_index_or}
use Rattle.mst_ids.specs.declared.name.PortName.{PortName}
use Rattle.mst_view.specs.Viewed.{Viewed}
use Rattle.mst_view.specs.declared.in_view.PortInView.{PortInView}
use Rattle.mst_roles.specs.forest.Forest.{Forest}
use Rattle.mst_roles.specs.SeenRoles.{seen_forwards}
use Rattle.mst_vlan.specs.Seen.{seen_member}
use Rattle.mst_roles.specs.SeenActive.{seen_active}
use Rattle.mst_roles.specs.forest.Settled.{SettledNet}

-- a view of a network with its trees
pub record ViewWithTrees : Type 0 where
  pub view : Viewed
  pub forest : Forest

-- a port carries a VID: it forwards for it and is a member of its VLAN, so that it links its bridge and its LAN
abbrev pub seen_is_link : Viewed → Forest → ℕ → PortInView → Bool
seen_is_link v f vid p = seen_member v vid p && seen_forwards v f vid p

-- a port and its logical LAN, by name
abbrev pub names_of : PortInView → PortName × List ℕ
names_of p = (p.name, p.lan)

-- the ports that carry a VID, each with its logical LAN
abbrev pub seen_carried : Viewed → Forest → ℕ → List (PortName × List ℕ)
seen_carried v f vid = map names_of (filter (seen_member v vid) (seen_active v f vid))

-- the same ports carry a VID in two networks, on the same LANs
abbrev pub CarryAlike : ViewWithTrees → ViewWithTrees → ℕ → Type 0
CarryAlike a b vid = seen_carried a.view a.forest vid ≡ seen_carried b.view b.forest vid

-- for each of these VIDs, counted from 0, there is a flag, and where it is false the VID is carried alike
pub record AreFlags (a b : ViewWithTrees) (places : List ℕ) (flags : List Bool) : Type 0 where
  pub as_long : length flags ≡ length places
  pub alike : (i : ℕ) → i < length places → slice_index_or flags i false ≡ false → CarryAlike a b (slice_index places i + 1)

-- the view with its trees
abbrev pub with_trees : SettledNet → ViewWithTrees
with_trees s = record { view = s.view; forest = s.forest }
