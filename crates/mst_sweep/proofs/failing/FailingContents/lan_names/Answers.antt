use Rattle.std.proofs.Common.{◌∙◌}
use Rattle.std.proofs.lemmas.Result.{IfOk-weaker}
use Rattle.mst_sweep.proofs.Together.{lan_names_stay}
use Rattle.mst_sweep.proofs.failing.FailingContents.lan_names.Goals as goal

pub returns : goal.returns
returns c = IfOk-weaker c.lan_names.result _ _ (λ names e. e ∙ lan_names_stay c.args.self.now.failures.now c.args.self.now.network.now.net.lans) c.lan_names.ensures
