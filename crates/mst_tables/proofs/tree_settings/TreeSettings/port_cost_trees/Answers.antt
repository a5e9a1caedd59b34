use Rattle.std.proofs.Common.{◌≡◌, ℕ, Bool, true, false, not, is_some, Some, refl, sym, ap, subst, ◌∙◌}
use Rattle.std.specs.Prelude.{◌==◌, IfOk}
use Rattle.std.specs.List.{filter}
use Rattle.std.specs.FinMap as fin
use Rattle.mst_tables.specs.ByTree.{port_cost_in}
use Rattle.mst_records.specs.Blocks.{is_marked}
use Rattle.mst_tables.specs.Tables.{PortTree, port_eq, port_tree_eq}
use Rattle.mst_tables.proofs.Keyed.{get_keyed}
use Rattle.mst_tables.proofs.Keys.{port_trees}
use Rattle.mst_tables.proofs.TreesListed.{trees_narrowed, cost_told, no_trees, nothing_found}
use Rattle.mst_tables.proofs.tree_settings.TreeSettings.port_cost_trees.Goals as goal

pub returns : goal.returns
returns c =
    let set = c.args.self.now.set.port_costs in
    let key = c.args.port.now in
    let test : ℕ → Bool = λ tree. is_some (port_cost_in set key tree) in
    let marked : (t : ℕ) → test t ≡ true → is_marked port_eq c.self.inside.port_blocks.entries key t ≡ true = λ t h.
    let k : PortTree = record { port = key; tree = t } in
    let some = cost_told (fin.get set k) h in
    c.self.invariant.port_costs k some.0 (sym (get_keyed port_trees c.self.inside.port_costs.entries k) ∙ ap (λ n. fin.get n.set.port_costs k) c.self.view_is ∙ some.1) in
    subst (λ l. IfOk c.with_port_cost.result (λ trees. trees.items ≡ l)) (ap (filter test) (c.deref.ensures.value ∙ c.in_ok-trees.ensures) ∙ trees_narrowed test (is_marked port_eq c.self.inside.port_blocks.entries key) marked) c.with_port_cost.ensures

pub returns-then-is_empty : goal.returns-then-is_empty
returns-then-is_empty c =
    let port = c.args.port.now in
    let none = c.is_empty.ensures.0 c.if-is_empty.true in
    let fails : (t : ℕ) → is_some (port_cost_in c.args.self.now.set.port_costs port t) ≡ false = λ t.
    let key : PortTree = record { port = port; tree = t } in
    ap (λ n. is_some (port_cost_in n.set.port_costs port t)) (sym c.self.view_is)
    ∙ ap is_some (get_keyed port_trees c.self.inside.port_costs.entries key ∙ nothing_found (port_tree_eq key) c.self.inside.port_costs.entries none) in
    c.new.ensures.items ∙ sym (no_trees (λ t. is_some (port_cost_in c.args.self.now.set.port_costs port t)) fails)
