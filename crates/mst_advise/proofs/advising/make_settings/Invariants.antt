use Rattle.std.proofs.Common.{◌≡◌, Ok, take}
use Rattle.mst_advise.specs.Made.{after_settings}
use Rattle.mst_advise.proofs.advising.make_settings.Given as goal

-- the settings so far are made
abbrev pub invariant-loop-setting : goal.invariant-loop-setting
invariant-loop-setting l = after_settings l.fn.network.net (take l.setting-index l.settings) ≡ Ok l.network.net
