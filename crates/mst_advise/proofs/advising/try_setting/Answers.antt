use Rattle.std.proofs.Common.{◌∷◌, [], List}
use Rattle.std.proofs.lemmas.Result.{IfOk-weaker}
use Rattle.mst_rows.specs.Rows.{Row}
use Rattle.mst_advise.specs.Advising.{Tries}
use Rattle.mst_sweeping.specs.Sweeping.{Puts}
use Rattle.mst_advise.proofs.Tried.{by_plan}
use Rattle.mst_advise.proofs.advising.try_setting.Goals as goal

pub returns-in-Ok-clause-told : goal.returns-in-Ok-clause-told
returns-in-Ok-clause-told g c = IfOk-weaker c.try_ahead-found.result _ _
    (λ found said. by_plan c.args.network.now c.prepare.new.self c.prepare.ensures.same c.args.plan.now
    (λ net o. (x : List Row) × Tries c.args.goal.now net o (c.args.setting.now ∷ []) found x × Puts g.R.Rows.grew c.args.out.now c.try_ahead-found.new.out x) said)
    c.try_ahead-found.ensures
