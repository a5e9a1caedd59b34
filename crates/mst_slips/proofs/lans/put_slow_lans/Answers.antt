use Rattle.std.proofs.Common.{◌++◌, List, ap, subst, ◌∙◌}
use Rattle.std.specs.List.{flat_map}
use Rattle.std.specs.Prelude.{OnOk}
use Rattle.mst_rows.specs.Rows.{Row}
use Rattle.mst_slips.specs.Kept.{kept_rows}
use Rattle.mst_slips.proofs.SlowLans.{lans_named}
use Rattle.mst_slips.proofs.lans.put_slow_lans.Goals as goal

pub returns : goal.returns
returns g c net numbers view first rows grew =
    let kept = c.args.kept.now in
    subst (λ (all : List Row). OnOk c.put_lans.result (g.R.Rows.grew first c.put_lans.new.out (rows ++ all)))
    (ap (flat_map (kept_rows kept)) c.lans.ensures ∙ lans_named net numbers c.args.view.now view kept c.requires)
    (c.put_lans.ensures first rows grew)
