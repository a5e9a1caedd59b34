-- The rows of links whose ends allow different VLANs.
use Rattle.std.specs.Prelude.{ℕ, ◌||◌, Bool, List, [], ◌∷◌, map, filter, if◌then◌else◌}
use Rattle.std.specs.Bool.{beq}
use Rattle.std.specs.List.{flat_map}
use Rattle.std.specs.Cmp.Lexicographic.{pointwise}
use Rattle.mst_ids.specs.Vids.{runs_from}
use Rattle.mst_ids.specs.declared.name.PortName.{PortName}
use Rattle.mst_kinds.specs.declared.kind.Kind.TheVariants as kind
use Rattle.mst_kinds.specs.declared.summary_line.SummaryLine.TheVariants as summary_line
use Rattle.mst_rows.specs.Cells.{port, vids}
use Rattle.mst_rows.specs.Rows.{Row, row_of}
use Rattle.mst_tables.specs.Tables.{Net}
use Rattle.mst_tables.specs.After.{vlans_of}
use Rattle.mst_view.specs.Aggregation.{same_name}
use Rattle.mst_view.specs.View.{LogicalLan, view_lans, view_ports}
use Rattle.mst_slips.specs.Vids.{vids_without}

-- the logical ports of a logical LAN, by the names of their bridges and their numbers
abbrev pub ends_of : Net → List ℕ → List PortName
ends_of net lan = map (λ p. p.name) (filter (λ p. same_name p.lan lan) (view_ports net))

-- `look vlans B:P VIDS C:Q VIDS`
abbrev pub vlans_row : PortName → List Bool → PortName → List Bool → Row
vlans_row p set q others = row_of (kind.Summary summary_line.LookVlans) (port p ∷ vids (runs_from 0 set) ∷ port q ∷ vids (runs_from 0 others) ∷ [])

-- of two ports with these VLANs: each with those of its own that the other one hasn't
abbrev pub ends_row : PortName → List Bool → PortName → List Bool → Row
ends_row p own q other = vlans_row p (vids_without own other) q (vids_without other own)

-- of two ports, if they are of two bridges and their VLANs differ
abbrev pub rows_of_ends : (PortName → List Bool) → List PortName → List Row
rows_of_ends vlans [] = []
rows_of_ends vlans (p ∷ []) = []
rows_of_ends vlans (p ∷ q ∷ []) = if same_name p.bridge q.bridge || pointwise beq (vlans p) (vlans q) then [] else ends_row p (vlans p) q (vlans q) ∷ []
rows_of_ends vlans (p ∷ q ∷ r ∷ ports) = []

-- of a logical LAN that is up and has just these two logical ports
abbrev pub rows_of_link : Net → LogicalLan → List Row
rows_of_link net lan = if lan.is_up then rows_of_ends (vlans_of net) (ends_of net lan.name) else []

-- of all, by name
abbrev pub vlans_rows : Net → List Row
vlans_rows net = flat_map (rows_of_link net) (view_lans net)
