-- The active ports of a VID, under the numbers of records.
use Rattle.std.specs.Prelude.{ℕ, List, filter}
use Rattle.mst_view.specs.Viewed.{Viewed}
use Rattle.mst_view.specs.declared.in_view.PortInView.{PortInView}
use Rattle.mst_forest.specs.Forest.{Forest}
use Rattle.mst_roles.specs.SeenRoles.{seen_forwards}

-- the active ports, and the links of those that are members
abbrev pub seen_active : Viewed → Forest → ℕ → List PortInView
seen_active v f vid = filter (seen_forwards v f vid) v.ports
