-- What is kept of a view with its trees, so that it is read for each VID which ports carry it.
use Rattle.std.specs.Prelude.{◌≡◌, ℕ, ◌+◌, ◌<◌, ◌&&◌, Bool, true, false, List, [], length, map, slice_index, slice_index_or}
use Rattle.mst_ids.specs.Vids.{has}
use Rattle.mst_tables.specs.ByTree.{vlans_in}
use Rattle.mst_view.specs.Viewed.{Viewed}
use Rattle.mst_roles.specs.forest.Agrees.{Known}
use Rattle.mst_roles.specs.forest.Forest.{Forest}
use Rattle.mst_roles.specs.SeenRoles.{seen_forwards}
use Rattle.mst_vlan.specs.Seen.{seen_bridges, seen_lans}

-- the set of VLANs of each port
abbrev pub seen_vlans : Viewed → List (List Bool)
seen_vlans v = map (λ p. vlans_in v.settings.vlans p.name) v.ports

-- a flag for each port: it forwards for the VID
abbrev pub seen_row : Viewed → Forest → ℕ → List Bool
seen_row v f vid = map (seen_forwards v f vid) v.ports

-- by the flags of ports for a VID and their sets of VLANs, the port at a place forwards for it and is a member of its VLAN
abbrev pub link_at : List Bool → List (List Bool) → ℕ → ℕ → Bool
link_at row sets vid place = slice_index_or row place false && has (slice_index_or sets place []) vid

-- each VID, counted from 0, has a number, and its flags are those at its number
pub record HaveRows (v : Viewed) (f : Forest) (numbers : List ℕ) (rows : List (List Bool)) : Type 0 where
  pub as_long : length numbers ≡ 4094
  pub below : (i : ℕ) → i < 4094 → slice_index numbers i < length rows
  pub own : (i : ℕ) → i < 4094 → slice_index_or rows (slice_index numbers i) [] ≡ seen_row v f (i + 1)

-- what is kept is that of the view and its trees
pub record IsKept (v : Viewed) (f : Forest) (sets : List (List Bool)) (numbers : List ℕ) (rows : List (List Bool)) (on up : List ℕ) : Type 0 where
  pub known : Known v f.regions
  pub vlans : sets ≡ seen_vlans v
  pub have_rows : HaveRows v f numbers rows
  pub bridges : on ≡ seen_bridges v
  pub lans : up ≡ seen_lans v

-- where a flag is set, the ports at its place are members of the same VLANs in two views
abbrev pub HaveSameVlans : Viewed → Viewed → List Bool → Type 0
HaveSameVlans v w flags = (i : ℕ) → slice_index_or flags i false ≡ true → slice_index_or (seen_vlans v) i [] ≡ slice_index_or (seen_vlans w) i []
