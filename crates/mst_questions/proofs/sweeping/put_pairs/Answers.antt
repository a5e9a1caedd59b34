use Rattle.std.proofs.Common.{subst}
use Rattle.std.proofs.lemmas.Result.{IfOk-weaker}
use Rattle.mst_net.specs.tables.Contents.{Contents}
use Rattle.mst_advise.specs.sweeping.Pairing.{SweepsPairs}
use Rattle.mst_questions.proofs.sweeping.put_pairs.Goals as goal

pub returns : goal.returns
returns g c first before grew =
    IfOk-weaker c.sweep_pairs.result _ _ (λ cuts said. (said.0, subst (λ (n : Contents). SweepsPairs c.args.part n.net cuts said.0) c.network.ensures said.1, said.2 first before grew)) c.sweep_pairs.ensures
