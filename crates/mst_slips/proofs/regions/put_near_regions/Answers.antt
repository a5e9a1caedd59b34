use Rattle.std.proofs.Common.{◌++◌, List, ap, subst, ◌∙◌}
use Rattle.std.specs.Prelude.{OnOk}
use Rattle.mst_rows.specs.Rows.{Row}
use Rattle.mst_slips.specs.Seen.{seen_each_two}
use Rattle.mst_slips.proofs.NearRegions.{regions_named}
use Rattle.mst_slips.proofs.regions.put_near_regions.Goals as goal

pub returns : goal.returns
returns g c net numbers ok view regions first rows grew =
    let v = c.args.view.now in
    let classes = c.args.regions.now in
    subst (λ (all : List Row). OnOk c.put_each_two.result (g.R.Rows.grew first c.put_each_two.new.out (rows ++ all)))
    (ap (seen_each_two v classes) (c.as_slice.ensures.value ∙ c.in_ok-firsts.ensures) ∙ regions_named net numbers v classes ok view regions)
    (c.put_each_two.ensures first rows grew)
