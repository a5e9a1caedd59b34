use Rattle.std.proofs.Common.{List, subst, ◌∙◌}
use Rattle.std.proofs.lemmas.Result.{IfOk-weaker}
use Rattle.mst_sweep.specs.Failures.{Event}
use Rattle.mst_sweeping.specs.Sweeping.{AreTold}
use Rattle.mst_sweeping.proofs.sweeping.sweep_failures.Goals as goal

pub returns : goal.returns
returns g c = IfOk-weaker c.sweep_events.result _ _
    (λ cuts told is.
    let t = told is in
    (t.0, subst (λ (events : List Event). AreTold c.args.network.now.net is.outcome events cuts t.0) (c.as_slice.ensures.value ∙ c.in_ok-events.ensures) t.1, t.2)) c.sweep_events.ensures.told
