-- The rows of a VID, by name.
use Rattle.std.specs.Prelude.{◌≡◌, ℕ, List, [], ◌∷◌, map}
use Rattle.mst_graph.specs.Islands.{Island}
use Rattle.mst_tables.specs.Tables.{Net}
use Rattle.mst_view.specs.View.{LogicalPort}
use Rattle.mst_vlan.specs.forest.Outcome.{Outcome}
use Rattle.mst_vlan.specs.roles.Active.{active_ports}
use Rattle.mst_vlan.specs.Reach.{is_member, AreIslandsOf}
use Rattle.mst_rows.specs.declared.value.ActivePort.{ActivePort}
use Rattle.mst_rows.specs.Rows.{Row}
use Rattle.mst_text.specs.VlanRows.{heading, active_row, island_row}

-- an active port, and whether it is a member of the VLAN
abbrev pub active_port : Net → ℕ → LogicalPort → ActivePort
active_port net vid p = record { port = p.name; is_member = is_member net vid p }

-- the active ports of a VID
abbrev pub ports_of_vid : Net → Outcome → ℕ → List ActivePort
ports_of_vid net o vid = map (active_port net vid) (active_ports net o vid)

-- the row of an island
abbrev pub row_of_island : List (ℕ × ℕ) → Island (List ℕ) (List ℕ) → Row
row_of_island runs island = island_row runs island.bridges island.lans

-- the rows of a VID's body, under a heading of these VIDs: its active ports, and each of its islands
abbrev pub body_rows : Net → Outcome → ℕ → List (ℕ × ℕ) → List (Island (List ℕ) (List ℕ)) → List Row
body_rows net o vid runs islands = active_row runs (ports_of_vid net o vid) ∷ map (row_of_island runs) islands

-- these are the rows of the VID's body under that heading
abbrev pub AreBodyRows : Net → Outcome → ℕ → List (ℕ × ℕ) → List Row → Type 0
AreBodyRows net o vid runs rows = (islands : List (Island (List ℕ) (List ℕ))) × AreIslandsOf net o vid islands × (rows ≡ body_rows net o vid runs islands)

-- a VID alone, as the runs of a set
abbrev pub alone : ℕ → List (ℕ × ℕ)
alone vid = (vid, vid) ∷ []

-- these are the VID's rows: the heading of it alone, and those of the body
abbrev pub AreVlanRows : Net → Outcome → ℕ → List Row → Type 0
AreVlanRows net o vid rows = (body : List Row) × AreBodyRows net o vid (alone vid) body × (rows ≡ heading (alone vid) ∷ body)
