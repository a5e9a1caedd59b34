use Rattle.std.proofs.Common.{[], map, take}
use Rattle.std.specs.List.{AllByRecursion}
use Rattle.mst_advise.specs.Settings.{alone}
use Rattle.mst_net.specs.tables.Contents.{SameContents}
use Rattle.mst_advise.specs.Advising.{Fail}
use Rattle.mst_sweeping.specs.Sweeping.{Puts}
use Rattle.mst_advise.proofs.advising.try_each.Given as goal

-- the network is as it was, none of the settings so far brings the goal about, and nothing was put
abbrev pub invariant-loop-setting : goal.invariant-loop-setting
invariant-loop-setting g l = record {
  same : SameContents l.fn.network l.network;
  fail : AllByRecursion (Fail l.goal l.fn.network.net) (map alone (take l.setting-index l.settings));
  put : Puts g.R.Rows.grew l.fn.out l.out [];
}
