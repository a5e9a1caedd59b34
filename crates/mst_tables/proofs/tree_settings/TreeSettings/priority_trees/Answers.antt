use Rattle.std.proofs.Common.{◌≡◌, ℕ, Bool, true, not, is_some, Some, refl, sym, ap, subst, ◌∙◌}
use Rattle.std.specs.Prelude.{◌==◌, IfOk}
use Rattle.std.specs.List.{filter}
use Rattle.std.specs.FinMap as fin
use Rattle.mst_tables.specs.ByTree.{priority_in}
use Rattle.mst_records.specs.Blocks.{is_marked}
use Rattle.mst_tables.specs.Tables.{BridgeTree}
use Rattle.mst_tables.proofs.Keyed.{get_keyed}
use Rattle.mst_tables.proofs.Keys.{name_eq, bridge_trees}
use Rattle.mst_tables.proofs.TreesListed.{trees_narrowed, priority_told}
use Rattle.mst_tables.proofs.tree_settings.TreeSettings.priority_trees.Goals as goal

pub returns : goal.returns
returns c =
    let set = c.args.self.now.set.priorities in
    let key = c.args.bridge.now in
    let test : ℕ → Bool = λ tree. not (priority_in set key tree == 8) in
    let marked : (t : ℕ) → test t ≡ true → is_marked name_eq c.self.inside.bridge_blocks.entries key t ≡ true = λ t h.
    let k : BridgeTree = record { bridge = key; tree = t } in
    let some = priority_told (fin.get set k) h in
    c.self.invariant.priorities k some.0 (sym (get_keyed bridge_trees c.self.inside.priorities.entries k) ∙ ap (λ n. fin.get n.set.priorities k) c.self.view_is ∙ some.1) in
    subst (λ l. IfOk c.with_priority.result (λ trees. trees.items ≡ l)) (ap (filter test) (c.deref.ensures.value ∙ c.in_ok-trees.ensures) ∙ trees_narrowed test (is_marked name_eq c.self.inside.bridge_blocks.entries key) marked) c.with_priority.ensures
