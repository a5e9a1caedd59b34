-- The active ports of a VID and what they link, under the numbers of records.
use Rattle.std.specs.Prelude.{ℕ, ◌==◌, Bool, List, Option, map, filter}
use Rattle.std.specs.List.{find}
use Rattle.std.specs.Option.{option_map}
use Rattle.mst_ids.specs.Vids.{has}
use Rattle.mst_graph.specs.Islands.{Link, Island}
use Rattle.mst_tables.specs.ByTree.{vlans_in}
use Rattle.mst_tables.specs.Seen.{bridge_row}
use Rattle.mst_view.specs.Viewed.{Viewed}
use Rattle.mst_view.specs.declared.in_view.PortInView.{PortInView}
use Rattle.mst_roles.specs.forest.Forest.{Forest}
use Rattle.mst_vlan.specs.declared.island.Island.{Island as IslandNos}
use Rattle.mst_roles.specs.SeenActive.{seen_active}

-- the bridges that are on, and the logical LANs that are up
abbrev pub seen_bridges : Viewed → List ℕ
seen_bridges v = map (λ b. b.bridge.number) (filter (λ b. (bridge_row b.bridge).is_on) v.bridges)

abbrev pub seen_lans : Viewed → List ℕ
seen_lans v = map (λ l. l.number) (filter (λ l. l.is_up) v.lans)

-- the logical port is a member of the VLAN
abbrev pub seen_member : Viewed → ℕ → PortInView → Bool
seen_member v vid p = has (vlans_in v.settings.vlans p.name) vid

abbrev pub seen_link : PortInView → Link ℕ ℕ
seen_link p = record { bridge = p.bridge; lan = p.lan_number }

abbrev pub seen_links : Viewed → Forest → ℕ → List (Link ℕ ℕ)
seen_links v f vid = map seen_link (filter (seen_member v vid) (seen_active v f vid))

-- an island by its lists
abbrev pub as_island : IslandNos → Island ℕ ℕ
as_island i = record { bridges = i.bridges; lans = i.lans }

-- the names of the bridge and of the logical LAN of this number, if there is one
abbrev pub seen_bridge : Viewed → ℕ → Option (List ℕ)
seen_bridge v bridge = option_map (λ b. b.name) (find (λ b. bridge == b.bridge.number) v.bridges)

abbrev pub seen_lan : Viewed → ℕ → Option (List ℕ)
seen_lan v lan = option_map (λ l. l.name) (find (λ l. lan == l.number) v.lans)
