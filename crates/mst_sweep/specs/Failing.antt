-- Which failures are of a LAN, and which of a bridge, and what they make of settings.
use Rattle.std.specs.Prelude.{ℕ, Bool, false, List, if◌then◌else◌}
use Rattle.mst_view.specs.Aggregation.{same_name}
use Rattle.mst_lang.specs.declared.line.BridgeChange.TheVariants.{Power}
use Rattle.mst_lang.specs.declared.line.LanChange.TheVariants.{State}
use Rattle.mst_lang.specs.declared.line.LanState.TheVariants.{Down}
use Rattle.mst_lang.specs.declared.line.Power.TheVariants.{Off}
use Rattle.mst_net.specs.tables.After.{bridge_with, lan_with}
use Rattle.mst_net.specs.tables.Tables.{BridgeRow, LanRow}
use Rattle.mst_sweep.specs.declared.failure.Failure.{Failure}
use Rattle.mst_sweep.specs.declared.failure.Failure.TheVariants.{Lan, Bridge}

abbrev pub fails_lan : List ℕ → Failure → Bool
fails_lan name (Lan lan) = same_name lan name
fails_lan name (Bridge bridge) = false

abbrev pub fails_bridge : List ℕ → Failure → Bool
fails_bridge name (Lan lan) = false
fails_bridge name (Bridge bridge) = same_name bridge name

-- the settings of a LAN, down where it fails, and those of a bridge, off where it does
abbrev pub down_if : Bool → LanRow → LanRow
down_if fails row = if fails then lan_with (State Down) row else row

abbrev pub off_if : Bool → BridgeRow → BridgeRow
off_if fails row = if fails then bridge_with (Power Off) row else row
