use Rattle.std.proofs.Common.{Ok, ap}
use Rattle.mst_advise.proofs.Tried.{settings_refused}
use Rattle.mst_advise.proofs.advising.make_settings.Goals as goal

pub returns-then-not-branch-clause-refused : goal.returns-then-not-branch-clause-refused
returns-then-not-branch-clause-refused c _ =
    settings_refused c.args.settings.now c.loop-setting.setting-index c.setting-item.result c.loop-setting-test.true c.setting-item.is c.args.network.now.net c.loop-setting.network.net c.loop-setting.invariant (c.in_ok-make_setting.ensures.refused (ap Ok c.if-not-branch.true))
