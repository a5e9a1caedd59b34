use Rattle.std.proofs.Common.{ap, sym, ◌∙◌}
use Rattle.std.specs.Option.{option_copied, unwrap_or}
use Rattle.mst_tables.specs.ByTree.{priority_in}
use Rattle.mst_tables.specs.Tables.{BridgeTree}
use Rattle.mst_tables.proofs.Keyed.{get_keyed}
use Rattle.mst_tables.proofs.Keys.{bridge_trees}
use Rattle.mst_tables.proofs.tree_settings.TreeSettings.tree_priority.Goals as goal

pub returns-in-Some : goal.returns-in-Some
returns-in-Some c =
    let key : BridgeTree = record { bridge = c.args.bridge.now; tree = c.args.tree } in
    ap (λ o. unwrap_or (option_copied o) 8) (sym c.in-Some.is) ∙ ap (λ o. unwrap_or o 8) (c.found.ensures.value ∙ sym (get_keyed bridge_trees c.self.inside.priorities.entries key))
    ∙ ap (λ n. priority_in n.set.priorities c.args.bridge.now c.args.tree) c.self.view_is

pub returns-in-None : goal.returns-in-None
returns-in-None c =
    let key : BridgeTree = record { bridge = c.args.bridge.now; tree = c.args.tree } in
    c.default.ensures
    ∙ ap (λ o. unwrap_or (option_copied o) 8) (sym c.in-None.is) ∙ ap (λ o. unwrap_or o 8) (c.found.ensures.value ∙ sym (get_keyed bridge_trees c.self.inside.priorities.entries key))
    ∙ ap (λ n. priority_in n.set.priorities c.args.bridge.now c.args.tree) c.self.view_is
