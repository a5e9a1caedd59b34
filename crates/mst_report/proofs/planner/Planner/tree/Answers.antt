use Rattle.std.proofs.Common.{◌≡◌, refl}
use Rattle.std.proofs.lemmas.Result.{on_ok_weaker}
use Rattle.mst_plan_text.specs.forest.Settled.{outcome_of}
use Rattle.mst_plan_text.specs.text.TreeText.{tree_rows}
use Rattle.mst_report.proofs.Told.{tells}
use Rattle.mst_report.proofs.planner.Planner.tree.Goals as goal

pub returns : goal.returns
returns g c first before grew =
    let plan = c.settled-plan.result in
    let own = tree_rows plan.net (outcome_of plan) c.args.tree in
    on_ok_weaker c.put_tree.result
    (λ grown. (own, tells c.args.self.now.contents.net plan c.settled-plan.ensures c.known.ensures (λ net o rows. rows ≡ tree_rows net o c.args.tree) own refl, grown)) (c.put_tree.ensures first before grew)
