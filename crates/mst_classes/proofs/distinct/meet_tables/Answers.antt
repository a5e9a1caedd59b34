use Rattle.std.proofs.Common.{◌≡◌, ◌<◌, ◌≤◌, ℕ, List, nat_eq, length, get_or, ap, subst, ◌∙◌}
use Rattle.std.specs.Cmp.Lexicographic.{pointwise, bytes_decides}
use Rattle.std.specs.List.{AllByRecursion, Contains}
use Rattle.std.proofs.lemmas.List.{take_all}
use Rattle.mst_tables.specs.ByTree.{ByTree, table_in}
use Rattle.mst_view.specs.declared.in_view.BridgeInView.{BridgeInView}
use Rattle.mst_classes.proofs.Gathered.{none_so_far, one_put, one_there}
use Rattle.mst_classes.proofs.distinct.meet_tables.Goals as goal
use Rattle.mst_classes.proofs.distinct.meet_tables.Goals.{then-not-is_last_table+in_ok-insert, else-not-is_last_table}

pub loop-bridge-init : goal.loop-bridge-init
loop-bridge-init c = none_so_far (λ (b : BridgeInView). table_in c.args.view.now.settings.tables b.name) c.args.met.now.keys

pub loop-bridge-preserved : goal.loop-bridge-preserved
loop-bridge-preserved c =
    let v = c.args.view.now in
    let key : BridgeInView → List ℕ = λ b. table_in v.settings.tables b.name in
    let old : List (List ℕ) = c.loop-bridge.met.keys in
    let i : ℕ = c.loop-bridge.bridge-index in
    let b = c.bridge-item.result in
    let l : i < length v.bridges = subst (λ bs. i < length bs) c.bridges-bridge-items.ensures c.loop-bridge-test.true in
    let is : b ≡ get_or v.bridges i b = c.bridge-item.is ∙ ap (λ bs. get_or bs i b) c.bridges-bridge-items.ensures in
    let table : c.table-table.result ≡ key b = c.table-table.ensures ∙ ap (λ (set : ByTree). table_in set.tables b.name) c.settings.ensures in
    elim c.if-not-is_last_table.branch [
      | then-not-is_last_table+in_ok-insert w ↦
          rw w.met-is
          (one_put key v.bridges i b l is c.args.met.now.keys old c.loop-bridge.invariant (pointwise nat_eq) (λ x y e. (bytes_decides x y).0 e) w.insert.new.self.keys c.table-table.result table w.in_ok-insert.ensures.keys)
      | else-not-is_last_table w ↦
          rw w.met-is
          (one_there key v.bridges i b l is c.args.met.now.keys old c.loop-bridge.invariant c.table-table.result table
          (subst (λ ts. Contains ts c.table-table.result) c.as_slice.ensures.keys (c.is_last_table.ensures w.if-not-is_last_table.false)))
    ]

pub returns-clause-there : goal.returns-clause-there
returns-clause-there c =
    let v = c.args.view.now in
    subst (λ bs. AllByRecursion (λ (b : BridgeInView). Contains c.loop-bridge.met.keys (table_in v.settings.tables b.name)) bs)
    (take_all c.loop-bridge.bridge-index v.bridges (subst (λ bs. length bs ≤ c.loop-bridge.bridge-index) c.bridges-bridge-items.ensures c.loop-bridge-test.false)) c.loop-bridge.invariant.there

pub returns-clause-before : goal.returns-clause-before
returns-clause-before c = c.loop-bridge.invariant.before
