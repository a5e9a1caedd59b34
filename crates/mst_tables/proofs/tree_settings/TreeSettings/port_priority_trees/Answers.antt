use Rattle.std.proofs.Common.{◌≡◌, ℕ, Bool, true, false, not, is_some, Some, refl, sym, ap, subst, ◌∙◌}
use Rattle.std.specs.Prelude.{◌==◌, IfOk}
use Rattle.std.specs.List.{filter}
use Rattle.std.specs.Option.{unwrap_or}
use Rattle.std.specs.FinMap as fin
use Rattle.mst_tables.specs.ByTree.{port_priority_in}
use Rattle.mst_records.specs.Blocks.{is_marked}
use Rattle.mst_tables.specs.Tables.{PortTree, port_eq, port_tree_eq}
use Rattle.mst_tables.proofs.Keyed.{get_keyed}
use Rattle.mst_tables.proofs.Keys.{port_trees}
use Rattle.mst_tables.proofs.TreesListed.{trees_narrowed, priority_told, no_trees, nothing_found}
use Rattle.mst_tables.proofs.tree_settings.TreeSettings.port_priority_trees.Goals as goal

pub returns : goal.returns
returns c =
    let set = c.args.self.now.set.port_priorities in
    let key = c.args.port.now in
    let test : ℕ → Bool = λ tree. not (port_priority_in set key tree == 8) in
    let marked : (t : ℕ) → test t ≡ true → is_marked port_eq c.self.inside.port_blocks.entries key t ≡ true = λ t h.
    let k : PortTree = record { port = key; tree = t } in
    let some = priority_told (fin.get set k) h in
    c.self.invariant.port_priorities k some.0 (sym (get_keyed port_trees c.self.inside.port_priorities.entries k) ∙ ap (λ n. fin.get n.set.port_priorities k) c.self.view_is ∙ some.1) in
    subst (λ l. IfOk c.with_port_priority.result (λ trees. trees.items ≡ l)) (ap (filter test) (c.deref.ensures.value ∙ c.in_ok-trees.ensures) ∙ trees_narrowed test (is_marked port_eq c.self.inside.port_blocks.entries key) marked) c.with_port_priority.ensures

pub returns-then-is_empty : goal.returns-then-is_empty
returns-then-is_empty c =
    let port = c.args.port.now in
    let none = c.is_empty.ensures.0 c.if-is_empty.true in
    let fails : (t : ℕ) → not (port_priority_in c.args.self.now.set.port_priorities port t == 8) ≡ false = λ t.
    let key : PortTree = record { port = port; tree = t } in
    ap (λ n. not (port_priority_in n.set.port_priorities port t == 8)) (sym c.self.view_is)
    ∙ ap (λ o. not (unwrap_or o 8 == 8)) (get_keyed port_trees c.self.inside.port_priorities.entries key ∙ nothing_found (port_tree_eq key) c.self.inside.port_priorities.entries none) in
    c.new.ensures.items ∙ sym (no_trees (λ t. not (port_priority_in c.args.self.now.set.port_priorities port t == 8)) fails)
