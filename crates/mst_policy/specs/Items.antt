-- Items of lists of names and of ports: what each has.
use Rattle.std.specs.Prelude.{ℕ, ◌==◌, ◌&&◌, Bool, true, false, List, nat_eq}
use Rattle.std.specs.List.{list_any, starts_with}
use Rattle.std.specs.Cmp.Lexicographic.{pointwise}
use Rattle.mst_ids.specs.declared.name.PortName.{PortName}
use Rattle.mst_policy.specs.declared.item.NameItem.{NameItem}
use Rattle.mst_policy.specs.declared.item.NameItem.TheVariants.{Is, Begins, Any}
use Rattle.mst_policy.specs.declared.item.PortsOf.{PortsOf}
use Rattle.mst_policy.specs.declared.item.PortsOf.TheVariants.{One, All}
use Rattle.mst_policy.specs.declared.item.PortItem.{PortItem}

-- whether an item has a name: it is this name, a beginning of it, or every name
abbrev pub item_has : NameItem → List ℕ → Bool
item_has (Is own) name = pointwise nat_eq own name
item_has (Begins front) name = starts_with nat_eq name front
item_has Any name = true

-- whether an item is the name itself
abbrev pub item_is : NameItem → List ℕ → Bool
item_is (Is own) name = pointwise nat_eq own name
item_is (Begins front) name = false
item_is Any name = false

-- whether a number of a port is the one that is meant, or every one is
abbrev pub ports_have : PortsOf → ℕ → Bool
ports_have (One own) number = own == number
ports_have All number = true

-- an item of ports by its two parts
abbrev pub port_item : NameItem → PortsOf → PortItem
port_item bridge ports = record { bridge = bridge; ports = ports }

-- whether an item has a port: its bridge's name and its number
abbrev pub port_item_has : PortItem → PortName → Bool
port_item_has item port = item_has item.bridge port.bridge && ports_have item.ports port.number

-- ---- lists
-- whether some item has a name
abbrev pub has : List NameItem → List ℕ → Bool
has items name = list_any (λ item. item_has item name) items

-- whether the name itself is an item
abbrev pub lists : List NameItem → List ℕ → Bool
lists items name = list_any (λ item. item_is item name) items

-- whether some item has a port
abbrev pub has_port : List PortItem → PortName → Bool
has_port items port = list_any (λ item. port_item_has item port) items
