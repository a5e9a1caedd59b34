use Rattle.std.proofs.Common.{List, ◌++◌, subst}
use Rattle.std.specs.Prelude.{OnOk}
use Rattle.mst_rows.specs.Rows.{Row}
use Rattle.mst_slips.specs.Seen.{seen_beside}
use Rattle.mst_slips.proofs.Fronts.{alone}
use Rattle.mst_slips.proofs.tables.put_beside_others.Goals as goal

pub returns-in-len1 : goal.returns-in-len1
returns-in-len1 g c grown rows grew =
    subst (λ (told : List Row). OnOk c.put_if_odd.result (g.R.Rows.grew grown c.put_if_odd.new.out (rows ++ told)))
    (alone (seen_beside c.args.view.now c.args.regions.now c.args.first.now) c.args.others.now c.other-item.result c.in-len1.len_at_least c.in-len1.len_below c.other-item.is)
    (c.put_if_odd.ensures grown rows grew)
