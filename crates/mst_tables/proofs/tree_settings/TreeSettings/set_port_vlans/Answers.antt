use Rattle.std.proofs.Common.{◌∙◌, ap, refl}
use Rattle.mst_lang.specs.declared.line.Edit.TheVariants.{SetByTree}
use Rattle.mst_lang.specs.declared.line.TreeChange.TheVariants.{Vlans}
use Rattle.mst_tables.specs.SettingsAfter.{set_after}
use Rattle.mst_tables.specs.declared.tree_settings.TreeSettings.TheInside.{Inside}
use Rattle.mst_tables.proofs.SettingsLemmas.{vlans_kept}
use Rattle.mst_tables.proofs.tree_settings.TreeSettings.set_port_vlans.Goals as goal

pub returns : goal.returns
returns c =
    let a = c.self.inside in
    let b : Inside = record a { vlans = c.keep.new.table } in
    vlans_kept a b c.args.port c.args.vids refl _ c.own_vlans.ensures c.keep.ensures ∙ ap (λ s. set_after (SetByTree (Vlans c.args.port c.args.vids)) s.set) c.self.view_is
