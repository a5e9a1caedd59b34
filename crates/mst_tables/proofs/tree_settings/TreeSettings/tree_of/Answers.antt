use Rattle.std.proofs.Common.{ap, sym, ◌∙◌}
use Rattle.std.specs.Option.{option_copied, unwrap_or}
use Rattle.mst_tables.specs.ByTree.{table_in}
use Rattle.mst_tables.specs.Table.{no_table, tree_in}
use Rattle.mst_tables.proofs.Keyed.{get_keyed}
use Rattle.mst_tables.proofs.Keys.{names}
use Rattle.mst_tables.proofs.TableFits.{tree_in-no_table}
use Rattle.mst_tables.proofs.tree_settings.TreeSettings.tree_of.Goals as goal

pub returns-in-Some : goal.returns-in-Some
returns-in-Some c =
    let key = c.args.bridge.now in
    let vid = c.args.vid in
    c.tree.ensures ∙ ap (λ t. tree_in t vid) c.table.ensures ∙ ap (λ o. tree_in (unwrap_or (option_copied o) no_table) vid) (sym c.in-Some.is)
    ∙ ap (λ o. tree_in (unwrap_or o no_table) vid) (c.get.ensures.value ∙ sym (get_keyed names c.self.inside.tables.entries key))
    ∙ ap (λ n. tree_in (table_in n.set.tables key) vid) c.self.view_is

pub returns-in-None : goal.returns-in-None
returns-in-None c =
    let key = c.args.bridge.now in
    let vid = c.args.vid in
    c.cist.ensures ∙ sym (tree_in-no_table vid) ∙ ap (λ o. tree_in (unwrap_or (option_copied o) no_table) vid) (sym c.in-None.is)
    ∙ ap (λ o. tree_in (unwrap_or o no_table) vid) (c.get.ensures.value ∙ sym (get_keyed names c.self.inside.tables.entries key))
    ∙ ap (λ n. tree_in (table_in n.set.tables key) vid) c.self.view_is
