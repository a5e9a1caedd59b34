-- The rows of a VID, under the numbers of records.
use Rattle.std.specs.Prelude.{ℕ, List, filter_map}
use Rattle.mst_view.specs.Viewed.{Viewed}
use Rattle.mst_view.specs.declared.in_view.PortInView.{PortInView}
use Rattle.mst_rows.specs.declared.value.ActivePort.{ActivePort}
use Rattle.mst_rows.specs.Rows.{Row}
use Rattle.mst_vlan.specs.Seen.{seen_member, seen_bridge, seen_lan}
use Rattle.mst_vlan.specs.declared.island.Island.{Island}
use Rattle.mst_text.specs.VlanRows.{island_row}

-- an active port, and whether it is a member of the VLAN
abbrev pub seen_port : Viewed → ℕ → PortInView → ActivePort
seen_port v vid p = record { port = p.name; is_member = seen_member v vid p }

-- the row of an island by its numbers
abbrev pub seen_island : Viewed → List (ℕ × ℕ) → Island → Row
seen_island v runs island = island_row runs (filter_map (seen_bridge v) island.bridges) (filter_map (seen_lan v) island.lans)
