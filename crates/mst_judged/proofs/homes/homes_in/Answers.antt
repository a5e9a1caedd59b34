use Rattle.std.proofs.lemmas.Result.{IfOk-weaker}
use Rattle.mst_judged.proofs.HomesMade.{known_of, homes_told}
use Rattle.mst_judged.proofs.homes.homes_in.Goals as goal

pub homes_of-requires : goal.homes_of-requires
homes_of-requires c = known_of c.args.plan.now c.known.ensures c.view.result.now c.forest.result.now c.view.ensures c.forest.ensures

pub returns : goal.returns
returns c =
    IfOk-weaker c.homes_of.result _ _
    (λ homes told. homes_told c.args.plan.now c.known.ensures c.view.result.now c.forest.result.now c.view.ensures c.forest.ensures c.args.vid homes.entries told)
    c.homes_of.ensures
