use Rattle.std.proofs.Common.{ap, sym, ◌∙◌}
use Rattle.std.specs.Option.{option_copied, unwrap_or}
use Rattle.mst_tables.specs.ByTree.{table_in}
use Rattle.mst_tables.specs.Table.{no_table}
use Rattle.mst_tables.proofs.Keyed.{get_keyed}
use Rattle.mst_tables.proofs.Keys.{names}
use Rattle.mst_tables.proofs.tree_settings.TreeSettings.table.Goals as goal

pub returns-in-Some : goal.returns-in-Some
returns-in-Some c =
    let key = c.args.bridge.now in
    c.table.ensures ∙ ap (λ o. unwrap_or (option_copied o) no_table) (sym c.in-Some.is) ∙ ap (λ o. unwrap_or o no_table) (c.get.ensures.value ∙ sym (get_keyed names c.self.inside.tables.entries key)) ∙ ap (λ n. table_in n.set.tables key) c.self.view_is

pub returns-in-None : goal.returns-in-None
returns-in-None c =
    let key = c.args.bridge.now in
    c.new.ensures ∙ ap (λ o. unwrap_or (option_copied o) no_table) (sym c.in-None.is) ∙ ap (λ o. unwrap_or o no_table) (c.get.ensures.value ∙ sym (get_keyed names c.self.inside.tables.entries key)) ∙ ap (λ n. table_in n.set.tables key) c.self.view_is
