-- The rows of the classes of links.
use Rattle.std.specs.Prelude.{ℕ, List, [], ◌∷◌, map}
use Rattle.std.specs.List.{flat_map}
use Rattle.std.specs.Option.{option_map_or}
use Rattle.mst_ids.specs.declared.name.PortName.{PortName}
use Rattle.mst_kinds.specs.declared.kind.Kind.TheVariants as kind
use Rattle.mst_kinds.specs.declared.region_line.RegionLine.TheVariants as region_line
use Rattle.mst_tables.specs.Tables.{Net}
use Rattle.mst_view.specs.Lag.{lag_id_text}
use Rattle.mst_view.specs.View.{LogicalLan, members, up_members, member_plugs, view_lans}
use Rattle.mst_view.specs.declared.lag.LagId.{LagId}
use Rattle.mst_rows.specs.Cells.{names, number, ports, word}
use Rattle.mst_rows.specs.Rows.{Row, row_of}

-- `lag LAN LAGID speed S up L,.. lans L,.. ports B:P,..`: the members that are up, all members, and their ports
abbrev pub lag_row : List ℕ → List ℕ → ℕ → List (List ℕ) → List (List ℕ) → List PortName → Row
lag_row lan id speed up lans plugged = row_of (kind.Region region_line.Lag) (word lan ∷ word id ∷ number speed ∷ names up ∷ names lans ∷ ports plugged ∷ [])

-- of a class of links, by its logical LAN
abbrev pub row_of_lag : Net → LogicalLan → LagId → Row
row_of_lag net lan id =
    lag_row lan.name (lag_id_text id) lan.speed (map (λ e. e.0) (up_members net lan.name)) (map (λ e. e.0) (members net lan.name)) (map (λ p. p.port) (member_plugs net lan.name))

-- a row for each class of links
abbrev pub lags_rows : Net → List Row
lags_rows net = flat_map (λ lan. option_map_or (λ id. row_of_lag net lan id ∷ []) lan.lag []) (view_lans net)
