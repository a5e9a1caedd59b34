-- How the network is kept.
use Rattle.std.specs.Prelude.{◌≡◌, ℕ, List, min, nat_eq}
use Rattle.std.specs.FinMap as fin
use Rattle.std.specs.Cmp.Lexicographic.{pointwise}
use Rattle.std.specs.HashSet as set
use Rattle.mst_tables.specs.Tables.{IsNetwork, port_eq}
use Rattle.mst_tables.specs.After.{mac_taken, is_of_bridge, is_in_lan}
use Rattle.mst_tables.specs.Contents.{Contents}
use Rattle.mst_tables.specs.Counting.{count_where}
use Rattle.mst_records.specs.Rows.{IsNumberedBy}
use Rattle.mst_records.specs.Tally.{count_in}
use Rattle.mst_net.specs.declared.network.Network.TheInside.{Inside}

abbrev pub contents_of : Inside → Contents
contents_of a = record {
  net = record {
    bridges = fin.from_entries a.bridges.rows;
    ports = fin.from_entries a.ports.rows;
    lans = fin.from_entries a.lans.rows;
    priorities = a.settings.set.priorities;
    port_priorities = a.settings.set.port_priorities;
    port_costs = a.settings.set.port_costs;
    tables = a.settings.set.tables;
    vlans = a.settings.set.vlans;
  };
  numbers = record {
    bridges = fin.from_entries a.bridges.numbers;
    ports = fin.from_entries a.ports.numbers;
    lans = fin.from_entries a.lans.numbers;
  };
  next = record { bridge = a.bridges.next; port = a.ports.next; lan = a.lans.next };
  room = record {
    bridge = min a.bridges.room (set.spare a.macs);
    port = min a.ports.room a.port_counts.room;
    lan = a.lans.room;
    plug = a.plug_counts.room;
    priority = a.settings.room.priority;
    port_priority = a.settings.room.port_priority;
    port_cost = a.settings.room.port_cost;
    table = a.settings.room.table;
    vlans = a.settings.room.vlans;
  };
}

-- a network whose records have numbers of their own, with the MACs of its bridges, how many ports each
-- bridge has, and how many plugs each LAN has
pub record IsSound (a : Inside) : Type 0 where
  pub network : IsNetwork (contents_of a).net
  pub bridges : IsNumberedBy (pointwise nat_eq) a.bridges
  pub ports : IsNumberedBy port_eq a.ports
  pub lans : IsNumberedBy (pointwise nat_eq) a.lans
  pub macs : (mac : ℕ) → set.contains nat_eq a.macs mac ≡ mac_taken mac (contents_of a).net
  pub port_counts : (bridge : List ℕ) → count_in (pointwise nat_eq) a.port_counts bridge ≡ count_where (is_of_bridge bridge) (contents_of a).net.ports
  pub plug_counts : (lan : List ℕ) → count_in (pointwise nat_eq) a.plug_counts lan ≡ count_where (is_in_lan lan) (contents_of a).net.ports
