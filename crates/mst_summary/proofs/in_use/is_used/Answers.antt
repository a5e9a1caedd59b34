use Rattle.std.proofs.Common.{◌≡◌, ◌==◌, true, sym, ap, ◌∙◌}
use Rattle.mst_view.specs.Trees.{is_among}
use Rattle.mst_view.specs.declared.in_view.BridgeInView.{BridgeInView}
use Rattle.mst_vlan.specs.forest.Seen.{trees_at}
use Rattle.mst_graph.specs.Lists.{has_any}
use Rattle.mst_summary.proofs.Lists.{any_or}
use Rattle.mst_summary.proofs.in_use.is_used.Goals as goal

pub returns-then-is_any : goal.returns-then-is_any
returns-then-is_any c =
    let v = c.args.view.now in
    let tree = c.args.tree in
    let some : has_any v.bridges ≡ true = ap has_any (sym c.bridges.ensures) ∙ sym c.is_any.ensures ∙ c.if-is_any.true in
    c.is_had.ensures v c.requires ∙ any_or (tree == 0) (λ (b : BridgeInView). is_among (trees_at v b.bridge.number) tree) v.bridges some
