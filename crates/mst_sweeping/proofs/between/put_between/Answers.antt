use Rattle.std.proofs.lemmas.Result.{IfOk-weaker}
use Rattle.mst_sweeping.proofs.between.put_between.Goals as goal

pub returns : goal.returns
returns g c = IfOk-weaker c.put_step.result _ _ (λ does said a b n k is are over. said a b n k is.forest are.forest is.of are.of over) c.put_step.ensures
