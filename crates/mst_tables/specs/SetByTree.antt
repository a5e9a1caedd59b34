-- What is set by tree for a record, in the trees that are marked for it.
use Rattle.std.specs.Prelude.{ℕ, Bool, ◌&&◌, nat_eq, List}
use Rattle.std.specs.Cmp.Lexicographic.{pointwise}
use Rattle.mst_ids.specs.declared.name.PortName.{PortName}
use Rattle.mst_records.specs.Blocks.{in_trees}
use Rattle.mst_tables.specs.Tables.{BridgeTree, PortTree, port_eq}

-- whether a key is this bridge, or this port, in a marked tree
abbrev pub in_trees_of_bridge : List ℕ → List Bool → BridgeTree → Bool
in_trees_of_bridge bridge flags key = pointwise nat_eq bridge key.bridge && in_trees flags key.tree

abbrev pub in_trees_of_port : PortName → List Bool → PortTree → Bool
in_trees_of_port port flags key = port_eq port key.port && in_trees flags key.tree
