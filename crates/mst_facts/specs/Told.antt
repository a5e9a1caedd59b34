-- What tells a bridge's region.
use Rattle.std.specs.Prelude.{◌==◌, ◌&&◌, not, Bool, if◌then◌else◌}
use Rattle.mst_tables.specs.Tables.{BridgeRow}
use Rattle.mst_view.specs.Aggregation.{same_name}

-- both bridges are of kind rstp, or both are of kind mstp, and their configurations have one name and one revision
abbrev pub same_told : BridgeRow → BridgeRow → Bool
same_told x y = if x.is_rstp then y.is_rstp else not y.is_rstp && same_name x.conf_name y.conf_name && x.revision == y.revision
