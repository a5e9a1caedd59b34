use Rattle.std.proofs.Common.{subst}
use Rattle.mst_tables.specs.Seen.{bridge_row}
use Rattle.mst_text.proofs.Shown.{shown}
use Rattle.mst_text.proofs.configuration.put_configuration.Goals as goal

pub returns-clause-rows : goal.returns-clause-rows
returns-clause-rows g c first rows grew =
    subst (g.R.Rows.grew first c.put_mstis.new.out)
    (shown (g.C.Contents.tables c.args.contents.now).net c.args.bridge.now (bridge_row c.in-Some.row) c.table-table.result rows c.in-Some.ensures.row c.table-table.ensures)
    (c.in_ok-put_mstis.ensures first _ (c.in_ok-put_bridge.ensures first rows grew))
