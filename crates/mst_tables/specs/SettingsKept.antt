-- How what is set by tree or VID is kept.
use Rattle.std.specs.Prelude.{◌≡◌, ℕ, true, Some, min, nat_eq}
use Rattle.std.specs.FinMap as fin
use Rattle.std.specs.HashMap as hash
use Rattle.std.specs.Map.{lookup}
use Rattle.std.specs.Cmp.Lexicographic.{pointwise}
use Rattle.mst_tables.specs.Tables.{BridgeTree, PortTree, port_eq, bridge_tree_eq, port_tree_eq}
use Rattle.mst_tables.specs.ByTree.{Settings}
use Rattle.mst_records.specs.Blocks.{is_marked}
use Rattle.mst_tables.specs.declared.tree_settings.TreeSettings.TheInside.{Inside}

abbrev pub settings_of : Inside → Settings
settings_of a = record {
  set = record {
    priorities = fin.from_entries a.priorities.entries;
    port_priorities = fin.from_entries a.port_priorities.entries;
    port_costs = fin.from_entries a.port_costs.entries;
    tables = fin.from_entries a.tables.entries;
    vlans = fin.from_entries a.vlans.entries;
  };
  room = record {
    priority = min (hash.spare a.priorities) (hash.spare a.bridge_blocks);
    port_priority = min (hash.spare a.port_priorities) (hash.spare a.port_blocks);
    port_cost = min (hash.spare a.port_costs) (hash.spare a.port_blocks);
    table = hash.spare a.tables;
    vlans = hash.spare a.vlans;
  };
}

-- whatever is set by tree is set in a tree that is marked for its bridge or its port
pub record AreMarked (a : Inside) : Type 0 where
  pub priorities : (q : BridgeTree) (n : ℕ) → lookup (bridge_tree_eq q) a.priorities.entries ≡ Some n → is_marked (pointwise nat_eq) a.bridge_blocks.entries q.bridge q.tree ≡ true
  pub port_priorities : (q : PortTree) (n : ℕ) → lookup (port_tree_eq q) a.port_priorities.entries ≡ Some n → is_marked port_eq a.port_blocks.entries q.port q.tree ≡ true
  pub port_costs : (q : PortTree) (n : ℕ) → lookup (port_tree_eq q) a.port_costs.entries ≡ Some n → is_marked port_eq a.port_blocks.entries q.port q.tree ≡ true
