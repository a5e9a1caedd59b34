use Rattle.std.proofs.Common.{List, ◌++◌, map, take}
use Rattle.mst_rows.specs.Rows.{Row}
use Rattle.mst_advise.specs.Told.{setting_row}
use Rattle.mst_advise.specs.contracts.told.put_settings.{R-type}
use Rattle.mst_advise.proofs.told.put_settings.Given as goal

-- the rows of the settings so far
abbrev pub invariant-loop-setting : goal.invariant-loop-setting
invariant-loop-setting g l = (first : R-type g.row.R) (rows : List Row) → g.R.Rows.grew first l.fn.out rows → g.R.Rows.grew first l.out (rows ++ map setting_row (take l.setting-index l.settings))
