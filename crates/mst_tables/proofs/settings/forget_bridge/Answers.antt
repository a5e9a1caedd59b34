use Rattle.std.proofs.Common.{nat_eq, ◌∙◌, arith}
use Rattle.std.specs.Map.{lookup}
use Rattle.std.specs.Cmp.Lexicographic.{pointwise}
use Rattle.mst_tables.specs.Tables.{bridge_tree_eq}
use Rattle.mst_records.specs.Blocks.{in_block}
use Rattle.mst_tables.proofs.SetByTree.{none_yet, passed_by, all_trees}
use Rattle.mst_tables.proofs.settings.forget_bridge.Goals as goal

pub loop-number-init : goal.loop-number-init
loop-number-init c = record {
  gone = λ q. none_yet (pointwise nat_eq c.args.bridge.now q.bridge) (in_block c.args.blocks.now q.tree) q.tree (lookup (bridge_tree_eq q) c.args.table.now.entries);
  within = omega arith;
}

pub loop-number-preserved : goal.loop-number-preserved
loop-number-preserved c = record {
  gone = λ q.
      c.loop-number.invariant.gone q
      ∙ passed_by (pointwise nat_eq c.args.bridge.now q.bridge) (in_block c.args.blocks.now q.tree) q.tree c.loop-number.number c.after-number.result (lookup (bridge_tree_eq q) c.args.table.now.entries) (omega (arith, c.after-number.ensures.above))
      (c.after-number.ensures.passed q.tree);
  within = c.after-number.ensures.within;
}

pub returns : goal.returns
returns c q =
    c.loop-number.invariant.gone q
    ∙ all_trees (pointwise nat_eq c.args.bridge.now q.bridge) (in_block c.args.blocks.now q.tree) q.tree c.loop-number.number (lookup (bridge_tree_eq q) c.args.table.now.entries) (omega arith)
