use Rattle.std.proofs.Common.{is_some, ap, sym, subst, refl, ◌∙◌}
use Rattle.std.specs.FinMap as fin
use Rattle.mst_lang.specs.declared.line.Edit.TheVariants.{Unplug}
use Rattle.mst_tables.specs.Contents.{Contents, CanCommit, Makes}
use Rattle.mst_net.specs.NetworkKept.{contents_of}
use Rattle.mst_net.specs.declared.network.Network.TheInside.{Inside}
use Rattle.mst_tables.proofs.Keyed.{get_keyed}
use Rattle.mst_tables.proofs.Keys.{ports}
use Rattle.mst_net.proofs.EditLemmas.{one_in_lan, unplugged_made, unplugged_sound}
use Rattle.mst_net.proofs.network.Network.unplug.Goals as goal

pub set-requires : goal.set-requires
set-requires c =
    let port = c.args.port.now in
    ap is_some (sym (get_keyed ports c.self.inside.ports.rows port) ∙ ap (λ n. fin.get n.net.ports port) c.self.view_is ∙ sym c.port_settings.ensures ∙ c.unwrap-settings.ensures)

pub lower-requires : goal.lower-requires
lower-requires c =
    one_in_lan c.self.inside c.self.invariant c.args.port.now c.unwrap-lan.result c.unwrap-settings.result
    (ap (λ n. fin.get n.net.ports c.args.port.now) c.self.view_is ∙ sym c.port_settings.ensures ∙ c.unwrap-settings.ensures) (ap (λ r. r.lan) (sym c.settings.view_is) ∙ c.unwrap-lan.ensures)

pub invariant_of-self : goal.invariant_of-self
invariant_of-self c =
    let a = c.self.inside in
    let b : Inside = record a { ports = c.set.new.self; plug_counts = c.lower.new.self } in
    unplugged_sound a b refl c.args.port.now c.unwrap-settings.result _ (ap (λ n. fin.get n.net.ports c.args.port.now) c.self.view_is ∙ sym c.port_settings.ensures ∙ c.unwrap-settings.ensures) c.set.ensures.rows
    c.unwrap-lan.result (subst (CanCommit (Unplug c.args.port.now)) (sym c.self.view_is) c.requires) c.self.invariant (ap (λ r. r.lan) (sym c.settings.view_is) ∙ c.unwrap-lan.ensures) (sym c.in_lan.ensures) c.set.ensures.numbered c.lower.ensures

pub returns : goal.returns
returns c =
    let a = c.self.inside in
    let b : Inside = record a { ports = c.set.new.self; plug_counts = c.lower.new.self } in
    subst (λ (old : Contents). Makes (Unplug c.args.port.now) old (contents_of b)) c.self.view_is
    (unplugged_made a b refl c.args.port.now c.unwrap-settings.result _ (ap (λ n. fin.get n.net.ports c.args.port.now) c.self.view_is ∙ sym c.port_settings.ensures ∙ c.unwrap-settings.ensures) c.set.ensures.rows (sym c.in_lan.ensures) c.set.ensures.numbers)
