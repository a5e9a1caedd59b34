-- What an edit makes of what is set by tree or VID.
use Rattle.std.specs.Prelude.{ℕ}
use Rattle.mst_lang.specs.declared.line.Edit.{Edit}
use Rattle.mst_tables.specs.Tables.{empty_net}
use Rattle.mst_tables.specs.ByTree.{ByTree, RoomByTree, by_tree, with_by_tree}
use Rattle.mst_tables.specs.After.{effect}
use Rattle.mst_tables.specs.Contents.{room_for}

-- as in a network with no records
abbrev pub set_after : Edit → ByTree → ByTree
set_after edit set = by_tree (effect edit (with_by_tree empty_net set))

-- the room for what the edit may set
abbrev pub room_to_set : Edit → RoomByTree → ℕ
room_to_set edit room =
    room_for edit (record { bridge = 1; port = 1; lan = 1; plug = 1; priority = room.priority; port_priority = room.port_priority; port_cost = room.port_cost; table = room.table; vlans = room.vlans })
