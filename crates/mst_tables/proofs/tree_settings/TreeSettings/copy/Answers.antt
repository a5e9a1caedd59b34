use Rattle.mst_tables.specs.declared.tree_settings.TreeSettings.TheInside.{Inside}
use Rattle.mst_tables.proofs.SettingsLemmas.{same_marked}
use Rattle.mst_tables.proofs.tree_settings.TreeSettings.copy.Goals as goal

pub invariant_of-result : goal.invariant_of-result
invariant_of-result c =
    let b : Inside = record {
      priorities = c.in_ok-priorities.priorities;
      port_priorities = c.in_ok-port_priorities.port_priorities;
      port_costs = c.in_ok-port_priorities.port_costs;
      tables = c.in_ok-tables.tables;
      vlans = c.in_ok-tables.vlans;
      bridge_blocks = c.in_ok-priorities.bridge_blocks;
      port_blocks = c.in_ok-port_blocks.port_blocks;
    } in
    same_marked c.self.inside b c.in_ok-priorities.ensures.0 c.in_ok-port_priorities.ensures.0 c.in_ok-port_priorities.ensures.1 c.in_ok-priorities.ensures.1 c.in_ok-port_blocks.ensures c.self.invariant
