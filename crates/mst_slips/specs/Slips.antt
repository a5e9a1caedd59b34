-- What of a network is most often a slip.
use Rattle.std.specs.Prelude.{◌++◌, List}
use Rattle.mst_rows.specs.Rows.{Row}
use Rattle.mst_tables.specs.Tables.{Net}
use Rattle.mst_slips.specs.Regions.{region_rows}
use Rattle.mst_slips.specs.Tables.{table_rows}
use Rattle.mst_slips.specs.Lans.{lan_rows}
use Rattle.mst_slips.specs.Vlans.{vlans_rows}

-- the rows of regions that are nearly one, those of bridges whose table alone differs, those of logical LANs that are far slower
-- than others beside them, and those of links whose ends allow different VLANs
abbrev pub slip_rows : Net → List Row
slip_rows net = region_rows net ++ table_rows net ++ lan_rows net ++ vlans_rows net
