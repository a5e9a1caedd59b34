use Rattle.std.proofs.Common.{◌≡◌, ℕ, cond, ◌&&◌, None, nat_eq, ap, sym, ◌∙◌, arith, rules}
use Rattle.std.specs.Map.{lookup}
use Rattle.mst_tables.specs.Tables.{port_eq, port_tree_eq}
use Rattle.mst_records.specs.Blocks.{in_block}
use Rattle.mst_tables.proofs.SetByTree.{left_below, none_yet, one_tree_more, passed_by, all_trees}
use Rattle.mst_tables.proofs.settings.forget_port.Goals as goal

pub loop-number-init : goal.loop-number-init
loop-number-init g c = record {
  gone = λ q. none_yet (port_eq c.args.port.now q.port) (in_block c.args.blocks.now q.tree) q.tree (lookup (port_tree_eq q) c.args.table.now.entries);
  within = omega arith;
}

pub loop-number-preserved-then-has : goal.loop-number-preserved-then-has
loop-number-preserved-then-has g c =
    let n : ℕ = c.loop-number.number in
    let value : c.unwrap-tree.result ≡ n = search rules in
    record {
      gone = λ q.
          let same = port_eq c.args.port.now q.port in
          let flag = in_block c.args.blocks.now q.tree in
          let was = lookup (port_tree_eq q) c.args.table.now.entries in
          c.swap_remove.ensures.updates.0 q ∙ ap (cond (same && nat_eq c.unwrap-tree.result q.tree) None) (c.loop-number.invariant.gone q)
          ∙ ap (λ t. cond (same && nat_eq t q.tree) None (left_below same flag q.tree n was)) value
          ∙ one_tree_more same flag q.tree n was (λ here. ap (in_block c.args.blocks.now) (sym here) ∙ sym c.has.ensures ∙ c.if-has.true);
      within = omega arith;
    }

pub loop-number-preserved : goal.loop-number-preserved
loop-number-preserved g c = record {
  gone = λ q.
      c.loop-number.invariant.gone q
      ∙ passed_by (port_eq c.args.port.now q.port) (in_block c.args.blocks.now q.tree) q.tree c.loop-number.number c.after-number.result (lookup (port_tree_eq q) c.args.table.now.entries) (omega (arith, c.after-number.ensures.above))
      (c.after-number.ensures.passed q.tree);
  within = c.after-number.ensures.within;
}

pub returns : goal.returns
returns g c q =
    c.loop-number.invariant.gone q
    ∙ all_trees (port_eq c.args.port.now q.port) (in_block c.args.blocks.now q.tree) q.tree c.loop-number.number (lookup (port_tree_eq q) c.args.table.now.entries) (omega arith)
