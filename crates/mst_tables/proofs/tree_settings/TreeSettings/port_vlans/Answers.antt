use Rattle.mst_ids.specs.Vids.{set_where, is_vid}
use Rattle.std.proofs.Common.{ap, sym, ◌∙◌}
use Rattle.std.specs.Option.{option_copied, unwrap_or}
use Rattle.mst_tables.specs.ByTree.{vlans_in}
use Rattle.mst_tables.proofs.Keyed.{get_keyed}
use Rattle.mst_tables.proofs.Keys.{ports}
use Rattle.mst_tables.proofs.tree_settings.TreeSettings.port_vlans.Goals as goal

pub returns-in-Some : goal.returns-in-Some
returns-in-Some c =
    let key = c.args.port.now in
    ap (λ o. unwrap_or (option_copied o) (set_where is_vid)) (sym c.in-Some.is) ∙ ap (λ o. unwrap_or o (set_where is_vid)) (c.get.ensures.value ∙ sym (get_keyed ports c.self.inside.vlans.entries key)) ∙ ap (λ n. vlans_in n.set.vlans key) c.self.view_is

pub returns-in-None : goal.returns-in-None
returns-in-None c =
    let key = c.args.port.now in
    c.all.ensures ∙ ap (λ o. unwrap_or (option_copied o) (set_where is_vid)) (sym c.in-None.is) ∙ ap (λ o. unwrap_or o (set_where is_vid)) (c.get.ensures.value ∙ sym (get_keyed ports c.self.inside.vlans.entries key)) ∙ ap (λ n. vlans_in n.set.vlans key) c.self.view_is
