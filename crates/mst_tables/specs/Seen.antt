-- What a look-up shows of a record.
use Rattle.mst_tables.specs.Tables.{BridgeRow, PortRow, LanRow}
use Rattle.mst_tables.specs.After.{is_rstp, is_on, is_up}
use Rattle.mst_tables.specs.declared.contents.Bridge.{Bridge}
use Rattle.mst_tables.specs.declared.contents.Port.{Port}
use Rattle.mst_tables.specs.declared.contents.Lan.{Lan}

abbrev pub bridge_row : Bridge → BridgeRow
bridge_row b = record { mac = b.mac; is_rstp = is_rstp b.kind; is_on = is_on b.power; system_priority = b.system_priority; revision = b.revision; conf_name = b.conf_name; max_hops = b.max_hops; max_age = b.max_age }

abbrev pub port_row : Port → PortRow
port_row p = record { lan = p.lan; settings = p.settings }

abbrev pub lan_row : Lan → LanRow
lan_row l = record { speed = l.speed; is_up = is_up l.state }
