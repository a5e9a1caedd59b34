use Rattle.std.proofs.Common.{List, Bool, ◌++◌, ◌∷◌, [], ap, subst, ◌∙◌}
use Rattle.std.specs.Prelude.{OnOk}
use Rattle.mst_tables.specs.ByTree.{ByTree, table_in}
use Rattle.mst_slips.specs.Tables.{table_row, vids_apart}
use Rattle.mst_slips.proofs.tables.put_odd.Goals as goal

pub returns : goal.returns
returns g c grown rows grew =
    let b = c.args.bridge.now in
    let own = c.table.ensures ∙ ap (λ (s : ByTree). table_in s.tables b.name) c.settings-settings.ensures in
    let others = c.table-2.ensures ∙ ap (λ (s : ByTree). table_in s.tables c.args.other.now.name) c.settings-settings.ensures in
    subst (λ (set : List Bool). OnOk c.put_row.result (g.R.Rows.grew grown c.put_row.new.out (rows ++ table_row b.bridge.conf_name b.bridge.revision b.name set ∷ [])))
    (c.vids_apart-vids.ensures ∙ (λ i. vids_apart (own i) (others i)))
    (c.put_row.ensures grown rows grew)
