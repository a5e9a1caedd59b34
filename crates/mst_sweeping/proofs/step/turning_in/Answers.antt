use Rattle.std.proofs.Common.{ap}
use Rattle.std.proofs.lemmas.Result.{IfOk-weaker}
use Rattle.mst_sweeping.specs.StepText.{turn_rows}
use Rattle.mst_sweeping.proofs.step.turning_in.Goals as goal

pub returns-in-Step : goal.returns-in-Step
returns-in-Step c = IfOk-weaker c.turning.result _ _ (λ turning told a b n k is are of so. ap (turn_rows c.args.deed.now) (told a b n k is are of so)) c.turning.ensures
