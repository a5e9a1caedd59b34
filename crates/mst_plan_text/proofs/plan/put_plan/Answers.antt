use Rattle.std.proofs.Common.{◌++◌, refl, subst, append_assoc}
use Rattle.std.proofs.lemmas.Result.{on_ok_weaker}
use Rattle.mst_vlan.specs.forest.Settled.{outcome_of}
use Rattle.mst_plan_text.specs.PlanText.{trees_rows}
use Rattle.mst_plan_text.proofs.plan.put_plan.Goals as goal

pub returns : goal.returns
returns g c first before grew =
    let trees = trees_rows c.args.plan.now.net (outcome_of c.args.plan.now) in
    on_ok_weaker c.put_vids.result
    (λ vids. (trees ++ vids.0, (vids.0, vids.1, refl), subst (g.R.Rows.grew first c.put_vids.new.out) (append_assoc before trees vids.0) vids.2))
    (c.put_vids.ensures first (before ++ trees) (c.in_ok-put_trees.ensures first before grew))
