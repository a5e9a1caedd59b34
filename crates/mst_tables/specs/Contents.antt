-- What is seen of a network and of its records.
use Rattle.std.specs.Prelude.{◌≡◌, ℕ, ◌<◌, List, Some, None, Ok, Option, refl}
use Rattle.std.specs.FinMap as fin
use Rattle.std.specs.Coded.{Coded, code_by, coded×, coded_ℕ, coded_bool, coded_list}
use Rattle.mst_ids.specs.Names.{coded_port}
use Rattle.mst_ids.specs.declared.name.PortName.{PortName}
use Rattle.mst_lang.specs.Ranges.{InRange}
use Rattle.mst_lang.specs.declared.line.Edit.{Edit}
use Rattle.mst_lang.specs.declared.line.Edit.TheVariants.{AddBridge, DelBridge, AddPort, DelPort, AddLan, DelLan, Plug, SetByTree}
use Rattle.mst_lang.specs.declared.line.TreeChange.TheVariants.{Priority, PortPriority, PortCost, Table, Vlans}
use Rattle.mst_tables.specs.Tables.{Net, Numbers, bridge_row_code, port_row_code, lan_row_code, bridge_tree_code, port_tree_code}
use Rattle.mst_tables.specs.ByTree.{priority_in, port_priority_in, port_cost_in}
use Rattle.mst_tables.specs.After.{after, effect, refusal_of}

-- a number for each kind of record
pub record PerKind : Type 0 where
  pub bridge : ℕ
  pub port : ℕ
  pub lan : ℕ

-- for how many more records of each kind, plugs, and settings by tree or VID there is room
pub record Room : Type 0 where
  pub bridge : ℕ
  pub port : ℕ
  pub lan : ℕ
  pub plug : ℕ
  pub priority : ℕ
  pub port_priority : ℕ
  pub port_cost : ℕ
  pub table : ℕ
  pub vlans : ℕ

-- the tables, the number of each record, the number that the next record of each kind gets, and for how
-- many more there is room
pub record Contents : Type 0 where
  pub net : Net
  pub numbers : Numbers
  pub next : PerKind
  pub room : Room

-- the tables and the numbers alone
pub record Tables : Type 0 where
  pub net : Net
  pub numbers : Numbers

abbrev pub tables_of : Contents → Tables
tables_of c = record { net = c.net; numbers = c.numbers }

-- each record has a number, and no two records of one kind have the same
pub record IsNumbered (net : Net) (numbers : Numbers) : Type 0 where
  pub bridges : (a : List ℕ) → fin.contains_key numbers.bridges a ≡ fin.contains_key net.bridges a
  pub ports : (p : PortName) → fin.contains_key numbers.ports p ≡ fin.contains_key net.ports p
  pub lans : (l : List ℕ) → fin.contains_key numbers.lans l ≡ fin.contains_key net.lans l
  pub bridges_differ : (a b : List ℕ) (n : ℕ) → fin.get numbers.bridges a ≡ Some n → fin.get numbers.bridges b ≡ Some n → a ≡ b
  pub ports_differ : (p q : PortName) (n : ℕ) → fin.get numbers.ports p ≡ Some n → fin.get numbers.ports q ≡ Some n → p ≡ q
  pub lans_differ : (l m : List ℕ) (n : ℕ) → fin.get numbers.lans l ≡ Some n → fin.get numbers.lans m ≡ Some n → l ≡ m

-- the tables, the numbers and what the next record gets are as they were
pub record SameContents (old new : Contents) : Type 0 where
  pub net : new.net ≡ old.net
  pub numbers : new.numbers ≡ old.numbers
  pub next : new.next ≡ old.next

-- the room for what the edit may add
abbrev pub room_for : Edit → Room → ℕ
room_for (AddBridge bridge mac) room = room.bridge
room_for (AddPort port) room = room.port
room_for (AddLan lan) room = room.lan
room_for (Plug port lan) room = room.plug
room_for (SetByTree (Priority bridge tree priority)) room = room.priority
room_for (SetByTree (PortPriority port tree priority)) room = room.port_priority
room_for (SetByTree (PortCost port tree cost)) room = room.port_cost
room_for (SetByTree (Table bridge tree vids)) room = room.table
room_for (SetByTree (Vlans port vids)) room = room.vlans
room_for _ room = 1

-- the edit's values are in their ranges, nothing refuses it, and there is room for what it may add
pub record CanCommit (edit : Edit) (now : Contents) : Type 0 where
  pub in_range : InRange edit
  pub accepted : refusal_of edit now.net ≡ None
  pub room : 0 < room_for edit now.room

-- each record that stays keeps its number, and a new one gets the next
abbrev pub numbers_after : Edit → PerKind → Numbers → Numbers
numbers_after (AddBridge bridge mac) next numbers = record numbers { bridges = fin.insert numbers.bridges bridge next.bridge }
numbers_after (DelBridge bridge) next numbers = record numbers { bridges = fin.remove numbers.bridges bridge }
numbers_after (AddPort port) next numbers = record numbers { ports = fin.insert numbers.ports port next.port }
numbers_after (DelPort port) next numbers = record numbers { ports = fin.remove numbers.ports port }
numbers_after (AddLan lan) next numbers = record numbers { lans = fin.insert numbers.lans lan next.lan }
numbers_after (DelLan lan) next numbers = record numbers { lans = fin.remove numbers.lans lan }
numbers_after _ next numbers = numbers

-- the edit was made, and had not been refused
pub record Commits (edit : Edit) (old new : Contents) : Type 0 where
  pub net : after edit old.net ≡ Ok new.net
  pub numbers : new.numbers ≡ numbers_after edit old.next old.numbers

-- the edit was made
pub record Makes (edit : Edit) (old new : Contents) : Type 0 where
  pub net : new.net ≡ effect edit old.net
  pub numbers : new.numbers ≡ numbers_after edit old.next old.numbers

-- what will be seen once the edit is made
abbrev pub ahead_of : Contents → Edit → Tables
ahead_of c edit = record { net = effect edit c.net; numbers = numbers_after edit c.next c.numbers }

-- the priority of a bridge in a tree, 8 where none is set
abbrev pub priority_of : Net → List ℕ → ℕ → ℕ
priority_of net bridge tree = priority_in net.priorities bridge tree

-- the priority of a port in a tree, 8 where none is set
abbrev pub port_priority_of : Net → PortName → ℕ → ℕ
port_priority_of net port tree = port_priority_in net.port_priorities port tree

-- the internal path cost of a port in a tree, none where it is automatic
abbrev pub port_cost_of : Net → PortName → ℕ → Option ℕ
port_cost_of net port tree = port_cost_in net.port_costs port tree

-- how they are stored
abbrev pub net_code : Coded Net
net_code =
    code_by _
    (coded× (fin.code (coded_list coded_ℕ) bridge_row_code) (coded× (fin.code coded_port port_row_code) (coded× (fin.code (coded_list coded_ℕ) lan_row_code)
    (coded× (fin.code bridge_tree_code coded_ℕ) (coded× (fin.code port_tree_code coded_ℕ) (coded× (fin.code port_tree_code coded_ℕ)
    (coded× (fin.code (coded_list coded_ℕ) (coded_list coded_ℕ)) (fin.code coded_port (coded_list coded_bool)))))))))
    (λ n. (n.bridges, (n.ports, (n.lans, (n.priorities, (n.port_priorities, (n.port_costs, (n.tables, n.vlans))))))))
    (λ p. record {
      bridges = p.0;
      ports = p.1.0;
      lans = p.1.1.0;
      priorities = p.1.1.1.0;
      port_priorities = p.1.1.1.1.0;
      port_costs = p.1.1.1.1.1.0;
      tables = p.1.1.1.1.1.1.0;
      vlans = p.1.1.1.1.1.1.1;
    }) (λ _. refl)

abbrev pub numbers_code : Coded Numbers
numbers_code =
    code_by _
    (coded× (fin.code (coded_list coded_ℕ) coded_ℕ) (coded× (fin.code coded_port coded_ℕ) (fin.code (coded_list coded_ℕ) coded_ℕ)))
    (λ n. (n.bridges, (n.ports, n.lans))) (λ p. record { bridges = p.0; ports = p.1.0; lans = p.1.1 }) (λ _. refl)

abbrev pub per_kind_code : Coded PerKind
per_kind_code = code_by (ℕ × (ℕ × ℕ)) (coded× coded_ℕ (coded× coded_ℕ coded_ℕ)) (λ k. (k.bridge, (k.port, k.lan))) (λ p. record { bridge = p.0; port = p.1.0; lan = p.1.1 }) (λ _. refl)

abbrev pub room_code : Coded Room
room_code =
    code_by (ℕ × (ℕ × (ℕ × (ℕ × (ℕ × (ℕ × (ℕ × (ℕ × ℕ))))))))
    (coded× coded_ℕ (coded× coded_ℕ (coded× coded_ℕ (coded× coded_ℕ (coded× coded_ℕ (coded× coded_ℕ (coded× coded_ℕ (coded× coded_ℕ coded_ℕ))))))))
    (λ r. (r.bridge, (r.port, (r.lan, (r.plug, (r.priority, (r.port_priority, (r.port_cost, (r.table, r.vlans)))))))))
    (λ p. record {
      bridge = p.0;
      port = p.1.0;
      lan = p.1.1.0;
      plug = p.1.1.1.0;
      priority = p.1.1.1.1.0;
      port_priority = p.1.1.1.1.1.0;
      port_cost = p.1.1.1.1.1.1.0;
      table = p.1.1.1.1.1.1.1.0;
      vlans = p.1.1.1.1.1.1.1.1;
    }) (λ _. refl)

abbrev pub tables_code : Coded Tables
tables_code = code_by _ (coded× net_code numbers_code) (λ t. (t.net, t.numbers)) (λ p. record { net = p.0; numbers = p.1 }) (λ _. refl)

abbrev pub contents_code : Coded Contents
contents_code =
    code_by _ (coded× net_code (coded× numbers_code (coded× per_kind_code room_code))) (λ c. (c.net, (c.numbers, (c.next, c.room))))
    (λ p. record { net = p.0; numbers = p.1.0; next = p.1.1.0; room = p.1.1.1 }) (λ _. refl)
