use Rattle.std.proofs.Common.{◌++◌, List, ap, subst, ◌∙◌}
use Rattle.std.specs.List.{flat_map}
use Rattle.std.specs.Prelude.{OnOk}
use Rattle.mst_rows.specs.Rows.{Row}
use Rattle.mst_slips.specs.Seen.{seen_among}
use Rattle.mst_slips.proofs.NearRegions.{tables_named}
use Rattle.mst_slips.proofs.tables.put_odd_tables.Goals as goal

pub returns : goal.returns
returns g c net numbers ok view regions first rows grew =
    let v = c.args.view.now in
    let classes = c.args.regions.now in
    subst (λ (all : List Row). OnOk c.put_firsts.result (g.R.Rows.grew first c.put_firsts.new.out (rows ++ all)))
    (ap (λ (firsts : List _). flat_map (seen_among v classes firsts) firsts) (c.as_slice.ensures.value ∙ c.in_ok-firsts.ensures) ∙ tables_named net numbers v classes ok view regions)
    (c.put_firsts.ensures first rows grew)
