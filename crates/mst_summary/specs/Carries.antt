-- The rows of what logical LANs carry.
use Rattle.std.specs.Prelude.{ℕ, ◌==◌, ◌&&◌, Bool, false, not, List, [], ◌∷◌, length, filter, if◌then◌else◌}
use Rattle.std.specs.List.{flat_map, list_any}
use Rattle.mst_ids.specs.Vids.{runs_from, set_where}
use Rattle.mst_kinds.specs.declared.kind.Kind.TheVariants as kind
use Rattle.mst_kinds.specs.declared.summary_line.SummaryLine.TheVariants as summary_line
use Rattle.mst_rows.specs.Cells.{word, names, vids}
use Rattle.mst_rows.specs.Rows.{Row, row_of}
use Rattle.mst_tables.specs.Tables.{Net}
use Rattle.mst_view.specs.Aggregation.{same_name}
use Rattle.mst_view.specs.Trees.{is_among}
use Rattle.mst_view.specs.View.{LogicalPort, view_ports}
use Rattle.mst_vlan.specs.forest.Outcome.{Outcome}
use Rattle.mst_vlan.specs.roles.Roles.{forwards_for}
use Rattle.mst_vlan.specs.Reach.{is_member, lans_up}
use Rattle.mst_vlan.specs.classes.AllVids.{all_vids}

-- ---- what goes over a logical LAN
-- the logical ports of a logical LAN
abbrev pub ports_on : Net → List ℕ → List LogicalPort
ports_on net lan = filter (λ p. same_name p.lan lan) (view_ports net)

-- a port is active for a VID, as it forwards in its bridge's tree of the VID, and is a member
abbrev pub carries : Net → Outcome → ℕ → LogicalPort → Bool
carries net o vid p = forwards_for net o vid p && is_member net vid p

-- those of a logical LAN that are so
abbrev pub carriers : Net → Outcome → List ℕ → ℕ → List LogicalPort
carriers net o lan vid = filter (carries net o vid) (ports_on net lan)

-- ports are of two bridges: one is of another bridge than the first
abbrev pub are_of_two : List LogicalPort → Bool
are_of_two [] = false
are_of_two (p ∷ ps) = list_any (λ q. not (same_name q.name.bridge p.name.bridge)) ps

-- frames of a VID go over a logical LAN, from one bridge to another
abbrev pub goes_over : Net → Outcome → List ℕ → ℕ → Bool
goes_over net o lan vid = are_of_two (carriers net o lan vid)

-- the VIDs that go over it, rising
abbrev pub carried : Net → Outcome → List ℕ → List ℕ
carried net o lan = filter (goes_over net o lan) all_vids

-- ---- the LANs that have rows
-- a logical LAN joins bridges: enabled logical ports of it are of two
abbrev pub joins : Net → List ℕ → Bool
joins net lan = are_of_two (filter (λ p. p.is_enabled) (ports_on net lan))

-- those that are up and do, by name
abbrev pub joining_lans : Net → List (List ℕ)
joining_lans net = filter (joins net) (lans_up net)

-- these VIDs are all
abbrev pub are_all : List ℕ → Bool
are_all some = length some == 4094

-- ---- their rows
-- `carries LAN VIDS`, of a set of VIDs
abbrev pub carries_row : List ℕ → List Bool → Row
carries_row lan set = row_of (kind.Summary summary_line.Carries) (word lan ∷ vids (runs_from 0 set) ∷ [])

-- of these VIDs, and nothing where they are all
abbrev pub carries_rows : List ℕ → List ℕ → List Row
carries_rows lan some = if are_all some then [] else carries_row lan (set_where (is_among some)) ∷ []

-- of each logical LAN that is up and joins bridges, by name
abbrev pub all_carries : Net → Outcome → List Row
all_carries net o = flat_map (λ lan. carries_rows lan (carried net o lan)) (joining_lans net)

-- those of these LANs that carry all VIDs
abbrev pub full_of : Net → Outcome → List (List ℕ) → List (List ℕ)
full_of net o lans = filter (λ lan. are_all (carried net o lan)) lans

-- `carries * L,..`, of LANs, and nothing where there is none
abbrev pub full_rows : List (List ℕ) → List Row
full_rows [] = []
full_rows (lan ∷ lans) = row_of (kind.Summary summary_line.CarriesAll) (names (lan ∷ lans) ∷ []) ∷ []

-- of those that carry all, by name
abbrev pub full_carries : Net → Outcome → List Row
full_carries net o = full_rows (full_of net o (joining_lans net))
