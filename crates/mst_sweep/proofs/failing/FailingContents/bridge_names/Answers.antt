use Rattle.std.proofs.Common.{◌∙◌}
use Rattle.std.proofs.lemmas.Result.{IfOk-weaker}
use Rattle.mst_sweep.proofs.Together.{bridge_names_stay}
use Rattle.mst_sweep.proofs.failing.FailingContents.bridge_names.Goals as goal

pub returns : goal.returns
returns c = IfOk-weaker c.bridge_names.result _ _ (λ names e. e ∙ bridge_names_stay c.args.self.now.failures.now c.args.self.now.network.now.net.bridges) c.bridge_names.ensures
