use Rattle.std.proofs.Common.{subst}
use Rattle.std.proofs.lemmas.Result.{IfOk-weaker}
use Rattle.mst_net.specs.tables.Contents.{Contents}
use Rattle.mst_advise.specs.sweeping.Sweeping.{SweepsPart}
use Rattle.mst_questions.proofs.sweeping.put_sweep.Goals as goal

pub returns : goal.returns
returns g c first before grew =
    IfOk-weaker c.sweep_network.result _ _ (λ cuts said. (said.0, subst (λ (n : Contents). SweepsPart c.args.part n.net cuts said.0) c.network.ensures said.1, said.2 first before grew)) c.sweep_network.ensures
