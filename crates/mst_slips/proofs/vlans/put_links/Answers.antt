use Rattle.std.proofs.Common.{◌++◌, List, ap, subst, ◌∙◌}
use Rattle.std.specs.List.{flat_map}
use Rattle.std.specs.Prelude.{OnOk}
use Rattle.mst_rows.specs.Rows.{Row}
use Rattle.mst_slips.specs.Kept.{kept_link}
use Rattle.mst_slips.proofs.SlowLans.{links_named}
use Rattle.mst_slips.proofs.vlans.put_links.Goals as goal

pub returns : goal.returns
returns g c net numbers view first rows grew =
    let v = c.args.view.now in
    let kept = c.args.kept.now in
    subst (λ (all : List Row). OnOk c.put_links_of.result (g.R.Rows.grew first c.put_links_of.new.out (rows ++ all)))
    (ap (flat_map (kept_link v.settings kept)) c.lans.ensures ∙ links_named net numbers v view kept c.requires)
    (c.put_links_of.ensures first rows grew)
