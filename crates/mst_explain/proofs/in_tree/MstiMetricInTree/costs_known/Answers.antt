use Rattle.mst_explain.proofs.Planned.{msti_can_step}
use Rattle.mst_explain.proofs.in_tree.MstiMetricInTree.costs_known.Goals as goal

pub returns : goal.returns
returns c = msti_can_step c.args.plan.now c.known.ensures c.costs_bounded.ensures c.args._tree
