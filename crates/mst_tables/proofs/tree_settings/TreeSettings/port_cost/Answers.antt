use Rattle.std.proofs.Common.{ap, sym, ◌∙◌}
use Rattle.mst_tables.specs.ByTree.{port_cost_in}
use Rattle.mst_tables.specs.Tables.{PortTree}
use Rattle.mst_tables.proofs.Keyed.{get_keyed}
use Rattle.mst_tables.proofs.Keys.{port_trees}
use Rattle.mst_tables.proofs.tree_settings.TreeSettings.port_cost.Goals as goal

pub returns : goal.returns
returns c =
    let key : PortTree = record { port = c.args.port.now; tree = c.args.tree } in
    c.copied.ensures ∙ c.found.ensures.value ∙ sym (get_keyed port_trees c.self.inside.port_costs.entries key) ∙ ap (λ n. port_cost_in n.set.port_costs c.args.port.now c.args.tree) c.self.view_is
