-- What is kept for logical LANs and for bridges, and the rows that are seen by it.
use Rattle.std.specs.Prelude.{◌≡◌, ℕ, ◌++◌, List, [], Option, None, Some, Vec, map, filter, if◌then◌else◌}
use Rattle.std.specs.Option.{option_map_or}
use Rattle.std.specs.HashMap.{HashMap, get}
use Rattle.std.specs.declared.alloc.Global.{Global}
use Rattle.mst_rows.specs.Rows.{Row}
use Rattle.mst_tables.specs.ByTree.{ByTree, vlans_in}
use Rattle.mst_view.specs.Aggregation.{same_name}
use Rattle.mst_view.specs.Viewed.{named_port}
use Rattle.mst_view.specs.declared.in_view.LanInView.{LanInView}
use Rattle.mst_view.specs.declared.in_view.PortInView.{PortInView}
use Rattle.mst_slips.specs.declared.kept.Kept.{Kept}
use Rattle.mst_slips.specs.Lans.{is_beside, just_two, least, rows_where_slower}
use Rattle.mst_slips.specs.Vlans.{rows_of_ends}

-- the ports that are kept for a name, none where nothing is kept
abbrev pub kept_at : {S : Type 0} → HashMap (List ℕ) (Vec PortInView Global) S → List ℕ → List PortInView
kept_at kept name = option_map_or (λ p. p.items) (get same_name kept name) []

-- these ports, by the names of their logical LANs and of their bridges
pub record AreKept (ports : List PortInView) (k : Kept) : Type 0 where
  pub lans : (lan : List ℕ) → kept_at k.by_lan lan ≡ filter (λ p. same_name p.lan lan) ports
  pub bridges : (bridge : List ℕ) → kept_at k.by_bridge bridge ≡ filter (λ p. same_name p.name.bridge bridge) ports

-- the speeds of other logical LANs that are up, of some ports
abbrev pub kept_speeds : List ℕ → List PortInView → List ℕ
kept_speeds lan ports = map (λ p. p.speed) (filter (λ p. is_beside lan (named_port p)) ports)

-- the rows of a logical LAN
abbrev pub kept_between : Kept → LanInView → Option (List ℕ × List ℕ) → List Row
kept_between k lan None = []
kept_between k lan (Some two) =
    rows_where_slower lan.name lan.speed (least (kept_speeds lan.name (kept_at k.by_bridge two.0) ++ kept_speeds lan.name (kept_at k.by_bridge two.1)))

abbrev pub kept_rows : Kept → LanInView → List Row
kept_rows k lan = if lan.is_up then kept_between k lan (just_two (map (λ p. p.name.bridge) (kept_at k.by_lan lan.name))) else []

-- the row of a link whose ends allow different VLANs
abbrev pub kept_link : ByTree → Kept → LanInView → List Row
kept_link set k lan = if lan.is_up then rows_of_ends (vlans_in set.vlans) (map (λ p. p.name) (kept_at k.by_lan lan.name)) else []
