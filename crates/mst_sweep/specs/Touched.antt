-- Ports whose roles a failure changes, by their places in the view, and links that it takes away.
use Rattle.std.specs.Prelude.{◌≡◌, ℕ, ◌<◌, ◌==◌, ◌&&◌, not, Bool, true, false, List, ◌∷◌, length, slice_index_or, Option, Some, None}
use Rattle.std.specs.List.{Contains, list_any}
use Rattle.mst_view.specs.Viewed.{Viewed}
use Rattle.mst_view.specs.declared.in_view.PortInView.{PortInView}
use Rattle.mst_vlan.specs.forest.Forest.{Forest}
use Rattle.mst_vlan.specs.forest.InUse.{seen_mstis}
use Rattle.mst_vlan.specs.roles.SeenRoles.{seen_role, seen_forwards}
use Rattle.mst_vlan.specs.roles.declared.kind.Role.{Role}
use Rattle.mst_vlan.specs.Seen.{seen_member}
use Rattle.mst_vlan.specs.roles.RoleNumbers.{role_number}

-- ---- roles
-- two roles aren't the same, or just one of them is there
abbrev pub differ : Option Role → Option Role → Bool
differ (Some old) (Some new) = not (role_number old == role_number new)
differ None None = false
differ _ _ = true

-- a port has one role before and afterwards in the CIST, and in each of these MSTIs
abbrev pub HaveSameRoles : Viewed → Forest → Viewed → Forest → List ℕ → PortInView → PortInView → Type 0
HaveSameRoles v f w g mstis x y = (tree : ℕ) → Contains (0 ∷ mstis) tree → seen_role v f tree x ≡ seen_role w g tree y

-- so has the port at this place of both views
abbrev pub KeepsRoles : Viewed → Forest → Viewed → Forest → List ℕ → ℕ → Type 0
KeepsRoles v f w g mstis place =
    (x y : PortInView) → place < length v.ports → slice_index_or v.ports place x ≡ x → slice_index_or w.ports place y ≡ y → HaveSameRoles v f w g mstis x y

-- each port that has another role in a tree of the old network has its flag
abbrev pub AreTouched : Viewed → Forest → Viewed → Forest → List Bool → Type 0
AreTouched v f w g flags = (place : ℕ) → slice_index_or flags place true ≡ false → KeepsRoles v f w g (seen_mstis v) place

-- a place whose flag is set is among these
abbrev pub ArePlaces : List Bool → List ℕ → Type 0
ArePlaces flags places = (place : ℕ) → slice_index_or flags place false ≡ true → Contains places place

-- each port that has another role in a tree of the old network stands at one of these places
abbrev pub AreWhereTouched : Viewed → Forest → Viewed → Forest → List ℕ → Type 0
AreWhereTouched v f w g places = (place : ℕ) → (Contains places place → ⊥) → KeepsRoles v f w g (seen_mstis v) place

-- ---- links
-- a port forwards for a VID and is a member of its VLAN: then it links its bridge and its LAN
abbrev pub seen_is_link : Viewed → Forest → ℕ → PortInView → Bool
seen_is_link v f vid p = seen_member v vid p && seen_forwards v f vid p

-- another port links another bridge to the LAN of a port
abbrev pub seen_beside_link : Viewed → Forest → ℕ → PortInView → PortInView → Bool
seen_beside_link v f vid p q = q.lan_number == p.lan_number && not (q.bridge == p.bridge) && seen_is_link v f vid q

-- a port linked its bridge to others, and doesn't afterwards
abbrev pub seen_breaks : Viewed → Forest → Viewed → Forest → ℕ → PortInView → PortInView → Bool
seen_breaks v f w g vid x y = seen_is_link v f vid x && not (seen_forwards w g vid y) && list_any (seen_beside_link v f vid x) v.ports

-- the port at this place of both views didn't, or still does
abbrev pub BreaksNoLink : Viewed → Forest → Viewed → Forest → ℕ → ℕ → Type 0
BreaksNoLink v f w g vid place =
    (x y : PortInView) → place < length v.ports → slice_index_or v.ports place x ≡ x → slice_index_or w.ports place y ≡ y → seen_breaks v f w g vid x y ≡ false

-- nor did those at these places, or they still do
abbrev pub BreakNoLinks : Viewed → Forest → Viewed → Forest → ℕ → List ℕ → Type 0
BreakNoLinks v f w g vid places = (place : ℕ) → Contains places place → BreaksNoLink v f w g vid place
