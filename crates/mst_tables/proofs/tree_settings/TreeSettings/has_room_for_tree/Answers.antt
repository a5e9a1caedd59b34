use Rattle.std.proofs.Common.{◌≡◌, ◌<◌, ap, sym, subst, ◌∙◌, arith}
use Rattle.std.specs.Option.{option_copied, unwrap_or}
use Rattle.mst_tables.specs.ByTree.{table_in}
use Rattle.mst_tables.specs.Table.{no_table, tree_count}
use Rattle.mst_tables.proofs.Keyed.{get_keyed}
use Rattle.mst_tables.proofs.Keys.{names}
use Rattle.mst_tables.proofs.TablesCounted.{none_counted}
use Rattle.mst_tables.proofs.tree_settings.TreeSettings.has_room_for_tree.Goals as goal

pub returns-in-Some : goal.returns-in-Some
returns-in-Some c room =
    let key = c.args.bridge.now in
    let same : c.in-Some.kept.now ≡ table_in c.args.self.now.set.tables key =
    ap (λ o. unwrap_or (option_copied o) no_table) (sym c.in-Some.is)
    ∙ ap (λ o. unwrap_or o no_table) (c.get.ensures.value ∙ sym (get_keyed names c.self.inside.tables.entries key))
    ∙ ap (λ n. table_in n.set.tables key) c.self.view_is in
    subst (λ t. tree_count t < 64) same (c.has_room.ensures room)

pub returns-in-None : goal.returns-in-None
returns-in-None c room =
    let key = c.args.bridge.now in
    let same : no_table ≡ table_in c.args.self.now.set.tables key =
    ap (λ o. unwrap_or (option_copied o) no_table) (sym c.in-None.is)
    ∙ ap (λ o. unwrap_or o no_table) (c.get.ensures.value ∙ sym (get_keyed names c.self.inside.tables.entries key))
    ∙ ap (λ n. table_in n.set.tables key) c.self.view_is in
    let none : tree_count (table_in c.args.self.now.set.tables key) ≡ 0 = ap tree_count (sym same) ∙ none_counted in
    omega (arith, none)
