use Rattle.std.proofs.Common.{◌++◌, List, ap, subst}
use Rattle.std.proofs.lemmas.Result.{on_ok_weaker}
use Rattle.mst_rows.specs.Rows.{Row}
use Rattle.mst_text.proofs.RegionsSeen.{all_seen}
use Rattle.mst_text.proofs.regions.put_regions.Goals as goal

pub returns : goal.returns
returns g c net numbers ok view regions first rows grew =
    on_ok_weaker c.put_seen.result
    (subst (g.R.Rows.grew first c.put_seen.new.out) (ap (λ (own : List Row). rows ++ own) (all_seen net numbers c.args.view.now c.args.regions.now ok view regions)))
    (c.put_seen.ensures first rows grew)
