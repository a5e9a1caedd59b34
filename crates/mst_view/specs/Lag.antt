-- The identifiers of link aggregation groups (802.1AX-2020, 6.3.6).
use Rattle.std.specs.Prelude.{ℕ, ◌+◌, ◌*◌, ◌^◌, List, ◌∷◌, ◌++◌, Option, if◌then◌else◌, nat_lt}
use Rattle.std.specs.Option.{option_map, option_and_then}
use Rattle.std.specs.FinMap as fin
use Rattle.mst_ids.specs.Texts.{hex_four, mac_text}
use Rattle.mst_tables.specs.Tables.{Net}
use Rattle.mst_view.specs.Aggregation.{Side, sides}
use Rattle.mst_view.specs.declared.lag.LagEnd.{LagEnd}
use Rattle.mst_view.specs.declared.lag.LagId.{LagId}

-- one end: the system, which is the bridge's system priority and MAC, and the key
abbrev pub end_of : Net → Side → Option LagEnd
end_of net side = option_map (λ row. record { priority = row.system_priority; mac = row.mac; key = side.key }) (fin.get net.bridges side.bridge)

-- a system as a number: 16 bits of priority, 48 bits of MAC. The lower one comes first
abbrev pub system : LagEnd → ℕ
system e = e.priority * 2 ^ 48 + e.mac

abbrev pub lag_between : LagEnd → LagEnd → LagId
lag_between a b = if nat_lt (system a) (system b) then record { lower = a; higher = b } else record { lower = b; higher = a }

-- the identifier of the group that a LAN is in, if it is aggregatable
abbrev pub lag_of : Net → List ℕ → Option LagId
lag_of net lan = option_and_then (λ s. option_and_then (λ a. option_map (lag_between a) (end_of net s.1)) (end_of net s.0)) (sides net lan)

-- `SYS.MAC.KEY+SYS.MAC.KEY`
abbrev pub end_text : LagEnd → List ℕ
end_text e = hex_four e.priority ++ 46 ∷ mac_text e.mac ++ 46 ∷ hex_four e.key

abbrev pub lag_id_text : LagId → List ℕ
lag_id_text id = end_text id.lower ++ 43 ∷ end_text id.higher
