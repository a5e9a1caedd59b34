use Rattle.std.proofs.lemmas.Result.{IfOk-weaker}
use Rattle.mst_judged.proofs.HomesMade.{is_of_plan, known_of}
use Rattle.mst_judged.proofs.homes.made_of.Goals as goal

pub returns-then-is_none : goal.returns-then-is_none
returns-then-is_none c = IfOk-weaker c.none_at.result _ _ (λ made are. are c.args.plan.now) c.none_at.ensures

pub new-requires : goal.new-requires
new-requires c = known_of c.args.plan.now c.known.ensures c.view.result.now c.forest.result.now c.view.ensures c.forest.ensures

pub returns : goal.returns
returns c = IfOk-weaker c.made_at.result _ _
    (λ made are. are c.args.plan.now c.known.ensures
    (is_of_plan c.args.plan.now c.known.ensures c.view.result.now c.forest.result.now c.view.ensures c.forest.ensures c.in_ok-carriage.carriage c.in_ok-carriage.ensures)) c.made_at.ensures
