-- The trees in which something is set that isn't the default.
use Rattle.std.specs.Prelude.{ℕ, ◌==◌, Bool, not, List, is_some}
use Rattle.std.specs.List.{range_with_len, filter}
use Rattle.mst_ids.specs.declared.name.PortName.{PortName}
use Rattle.mst_tables.specs.Tables.{Net}
use Rattle.mst_tables.specs.Contents.{priority_of, port_priority_of, port_cost_of}

-- the trees that pass a test, from 0, the CIST, to 4094, in rising order
unfoldable pub trees_where : (ℕ → Bool) → List ℕ
trees_where test = filter test (range_with_len 0 4095)

-- those in which a bridge has another priority than 8
abbrev pub priority_trees : Net → List ℕ → List ℕ
priority_trees net bridge = trees_where (λ tree. not (priority_of net bridge tree == 8))

-- those in which a port has another priority than 8
abbrev pub port_priority_trees : Net → PortName → List ℕ
port_priority_trees net port = trees_where (λ tree. not (port_priority_of net port tree == 8))

-- those in which the internal path cost of a port isn't automatic
abbrev pub port_cost_trees : Net → PortName → List ℕ
port_cost_trees net port = trees_where (λ tree. is_some (port_cost_of net port tree))
