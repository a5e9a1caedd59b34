use Rattle.std.proofs.Common.{subst}
use Rattle.std.proofs.lemmas.Result.{IfOk-weaker}
use Rattle.mst_advise.specs.Advising.{Advises}
use Rattle.mst_net.specs.tables.Contents.{Contents}
use Rattle.mst_questions.proofs.advising.put_advice.Goals as goal

pub returns-clause-told : goal.returns-clause-told
returns-clause-told g c first before grew =
    IfOk-weaker c.advise_network.result _ _
    (λ advice said. (
      said.0,
      subst (λ (p : Contents). Advises p.net c.args.goal.now advice said.0) c.take-network.ensures.network said.1,
      said.2 first before grew,
    ))
    c.advise_network.ensures
