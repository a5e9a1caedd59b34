use Rattle.std.proofs.Common.{ap, sym, ◌∙◌}
use Rattle.std.specs.Option.{option_copied, unwrap_or}
use Rattle.mst_tables.specs.ByTree.{port_priority_in}
use Rattle.mst_tables.specs.Tables.{PortTree}
use Rattle.mst_tables.proofs.Keyed.{get_keyed}
use Rattle.mst_tables.proofs.Keys.{port_trees}
use Rattle.mst_tables.proofs.tree_settings.TreeSettings.port_priority.Goals as goal

pub returns-in-Some : goal.returns-in-Some
returns-in-Some c =
    let key : PortTree = record { port = c.args.port.now; tree = c.args.tree } in
    ap (λ o. unwrap_or (option_copied o) 8) (sym c.in-Some.is) ∙ ap (λ o. unwrap_or o 8) (c.found.ensures.value ∙ sym (get_keyed port_trees c.self.inside.port_priorities.entries key))
    ∙ ap (λ n. port_priority_in n.set.port_priorities c.args.port.now c.args.tree) c.self.view_is

pub returns-in-None : goal.returns-in-None
returns-in-None c =
    let key : PortTree = record { port = c.args.port.now; tree = c.args.tree } in
    c.default.ensures
    ∙ ap (λ o. unwrap_or (option_copied o) 8) (sym c.in-None.is) ∙ ap (λ o. unwrap_or o 8) (c.found.ensures.value ∙ sym (get_keyed port_trees c.self.inside.port_priorities.entries key))
    ∙ ap (λ n. port_priority_in n.set.port_priorities c.args.port.now c.args.tree) c.self.view_is
