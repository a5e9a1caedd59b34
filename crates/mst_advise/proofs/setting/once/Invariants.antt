use Rattle.std.proofs.Common.{◌≡◌, take}
use Rattle.mst_graph.specs.Lists.{each_once}
use Rattle.mst_advise.specs.Settings.{same_setting}
use Rattle.mst_advise.proofs.setting.once.Given as goal

-- the settings so far, each once
abbrev pub invariant-loop-setting : goal.invariant-loop-setting
invariant-loop-setting l = l.kept.items ≡ each_once same_setting (take l.setting-index l.settings)
