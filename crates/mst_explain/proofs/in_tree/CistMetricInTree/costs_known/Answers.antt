use Rattle.mst_explain.proofs.Planned.{cist_can_step}
use Rattle.mst_explain.proofs.in_tree.CistMetricInTree.costs_known.Goals as goal

pub returns : goal.returns
returns c = cist_can_step c.args.plan.now c.known.ensures c.costs_bounded.ensures c.args._tree
