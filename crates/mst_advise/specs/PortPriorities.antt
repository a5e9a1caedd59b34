-- Port priorities with which a port comes before another one of its bridge.
use Rattle.std.specs.Prelude.{ℕ, zero, suc, Bool, List, [], ◌∷◌, ◌++◌, Option, None, Some, nat_lt, if◌then◌else◌}
use Rattle.std.specs.Option.{option_map_or}
use Rattle.mst_ids.specs.Identifiers.{port_id}
use Rattle.mst_ids.specs.declared.name.PortName.{PortName}
use Rattle.mst_net.specs.tables.ByTree.{port_priority_in}
use Rattle.mst_net.specs.tables.Tables.{Net}
use Rattle.mst_advise.specs.Priorities.{greatest_upto}
use Rattle.mst_advise.specs.declared.setting.Setting.{Setting}
use Rattle.mst_advise.specs.declared.setting.Setting.TheVariants.{PortPriority}

-- the identifier of a port in a tree
abbrev pub port_identifier : Net → ℕ → PortName → ℕ
port_identifier net tree p = port_id (port_priority_in net.port_priorities p tree) p.number

-- with this priority the port of this number comes before this identifier, or behind it
abbrev pub is_before : ℕ → ℕ → ℕ → Bool
is_before number id priority = nat_lt (port_id priority number) id

abbrev pub is_behind : ℕ → ℕ → ℕ → Bool
is_behind number id priority = nat_lt id (port_id priority number)

-- the first number from this one on that passes a test, of so many behind it
unfoldable pub least_from : (ℕ → Bool) → ℕ → ℕ → Option ℕ
least_from passes n zero = if passes n then Some n else None
least_from passes n (suc more) = if passes n then Some n else least_from passes (suc n) more

-- the greatest priority of P with which it comes before Q; and the least one of Q with which it comes behind P
abbrev pub set_port : ℕ → PortName → Option ℕ → List Setting
set_port tree p priority = option_map_or (λ n. PortPriority p tree n ∷ []) priority []

abbrev pub port_priorities : Net → ℕ → PortName → PortName → List Setting
port_priorities net tree p q =
    set_port tree p (greatest_upto (is_before p.number (port_identifier net tree q)) 15)
    ++ set_port tree q (least_from (is_behind q.number (port_identifier net tree p)) 0 15)
