use Rattle.std.proofs.Common.{◌≡◌, ap, sym, subst, ◌∙◌}
use Rattle.std.specs.Result.{IfOk}
use Rattle.std.specs.Option.{option_copied, unwrap_or}
use Rattle.mst_tables.specs.ByTree.{table_in}
use Rattle.mst_tables.specs.Table.{no_table, mstis_in}
use Rattle.mst_tables.proofs.Keyed.{get_keyed}
use Rattle.mst_tables.proofs.Keys.{names}
use Rattle.mst_tables.proofs.TreesListed.{no_mstis}
use Rattle.mst_tables.proofs.tree_settings.TreeSettings.mstis.Goals as goal

pub returns-in-Some : goal.returns-in-Some
returns-in-Some c =
    let key = c.args.bridge.now in
    let same : c.table.result.now ≡ table_in c.args.self.now.set.tables key =
    c.table.ensures ∙ ap (λ o. unwrap_or (option_copied o) no_table) (sym c.in-Some.is)
    ∙ ap (λ o. unwrap_or o no_table) (c.get.ensures.value ∙ sym (get_keyed names c.self.inside.tables.entries key))
    ∙ ap (λ n. table_in n.set.tables key) c.self.view_is in
    subst (λ table. IfOk c.mstis.result (λ trees. trees.items ≡ mstis_in table)) same c.mstis.ensures

pub returns-in-None : goal.returns-in-None
returns-in-None c =
    let key = c.args.bridge.now in
    let same : no_table ≡ table_in c.args.self.now.set.tables key =
    ap (λ o. unwrap_or (option_copied o) no_table) (sym c.in-None.is)
    ∙ ap (λ o. unwrap_or o no_table) (c.get.ensures.value ∙ sym (get_keyed names c.self.inside.tables.entries key))
    ∙ ap (λ n. table_in n.set.tables key) c.self.view_is in
    c.new.ensures.items ∙ sym no_mstis ∙ ap mstis_in same
