use Rattle.std.proofs.Common.{◌≡◌, ℕ, Bool, true, false, cond, List, Option, Some, None, ◌∙◌, ap, sym, refl}
use Rattle.std.specs.Prelude.{◌==◌}
use Rattle.std.specs.List.{list_all}
use Rattle.std.specs.Map.{lookup}
use Rattle.std.specs.Option.{unwrap_or}
use Rattle.mst_lang.specs.declared.line.Edit.TheVariants.{SetByTree}
use Rattle.mst_lang.specs.declared.line.TreeChange.TheVariants.{Table}
use Rattle.mst_tables.specs.After.{own_table}
use Rattle.mst_tables.specs.ByTree.{table_in}
use Rattle.mst_tables.specs.KeptTables.{table_among}
use Rattle.mst_tables.specs.Table.{no_table, mapped}
use Rattle.mst_tables.specs.SettingsAfter.{set_after}
use Rattle.mst_tables.specs.SettingsKept.{settings_of}
use Rattle.mst_tables.specs.declared.tree_settings.TreeSettings.TheInside.{Inside}
use Rattle.mst_tables.proofs.Keyed.{get_keyed}
use Rattle.mst_tables.proofs.Keys.{name_eq, names}
use Rattle.mst_tables.proofs.SettingsLemmas.{table_kept}
use Rattle.mst_tables.proofs.tree_settings.TreeSettings.map_vids.Goals as goal

own_is : (table : List ℕ) (t : Bool) → list_all (λ tree. tree == 0) table ≡ t → cond t None (Some table) ≡ own_table table
own_is table t is = ap (λ (b : Bool). cond b None (Some table)) (sym is)

gone : {X : Type 0} (t : Bool) (x : X) (o : Option X) → cond t None (cond t (Some x) o) ≡ cond t None o
gone true x o = refl
gone false x o = refl

seen : (a : Inside) (bridge : List ℕ) (tree : ℕ) (vids : List Bool) → mapped vids tree (table_among a.tables.entries bridge) ≡ mapped vids tree (table_in (settings_of a).set.tables bridge)
seen a bridge tree vids = ap (λ o. mapped vids tree (unwrap_or o no_table)) (sym (get_keyed names a.tables.entries bridge))

pub returns-then-map_in : goal.returns-then-map_in
returns-then-map_in c =
    let a = c.self.inside in
    let key = c.args.bridge in
    let table : List ℕ = mapped c.args.vids.now c.args.tree (table_among a.tables.entries key) in
    let b : Inside = record a { tables = c.swap_remove.new.self } in
    table_kept a b key c.args.tree c.args.vids.now refl None (own_is table true (sym c.map_in.ensures.default ∙ c.if-map_in.true) ∙ ap own_table (seen a key c.args.tree c.args.vids.now))
    (λ q. c.swap_remove.ensures.updates.0 q ∙ ap (cond (name_eq key q) None) (c.map_in.ensures.kept q) ∙ gone (name_eq key q) table (lookup (name_eq q) a.tables.entries))
    ∙ ap (λ s. set_after (SetByTree (Table key c.args.tree c.args.vids.now)) s.set) c.self.view_is

pub returns-else-map_in : goal.returns-else-map_in
returns-else-map_in c =
    let a = c.self.inside in
    let key = c.args.bridge in
    let table : List ℕ = mapped c.args.vids.now c.args.tree (table_among a.tables.entries key) in
    let b : Inside = record a { tables = c.map_in.new.tables } in
    table_kept a b key c.args.tree c.args.vids.now refl (Some table) (own_is table false (sym c.map_in.ensures.default ∙ c.if-map_in.false) ∙ ap own_table (seen a key c.args.tree c.args.vids.now)) c.map_in.ensures.kept
    ∙ ap (λ s. set_after (SetByTree (Table key c.args.tree c.args.vids.now)) s.set) c.self.view_is
