use Rattle.std.proofs.Common.{is_some, ap, sym, subst, refl, ◌∙◌}
use Rattle.std.specs.FinMap as fin
use Rattle.mst_lang.specs.declared.line.Edit.TheVariants.{Plug}
use Rattle.mst_tables.specs.Contents.{Contents, CanCommit, Makes}
use Rattle.mst_net.specs.NetworkKept.{contents_of}
use Rattle.mst_net.specs.declared.network.Network.TheInside.{Inside}
use Rattle.mst_tables.proofs.Keyed.{get_keyed}
use Rattle.mst_tables.proofs.Keys.{ports}
use Rattle.mst_net.proofs.EditLemmas.{few_in_lan, plugged_made, plugged_sound}
use Rattle.mst_net.proofs.network.Network.plug.Goals as goal

pub set-requires : goal.set-requires
set-requires c =
    let port = c.args.port.now in
    ap is_some (sym (get_keyed ports c.self.inside.ports.rows port) ∙ ap (λ n. fin.get n.net.ports port) c.self.view_is ∙ sym c.port_settings.ensures ∙ c.unwrap-settings.ensures)

pub raise-requires-clause-few : goal.raise-requires-clause-few
raise-requires-clause-few c = few_in_lan c.self.inside c.self.invariant c.args.lan

pub invariant_of-self : goal.invariant_of-self
invariant_of-self c =
    let a = c.self.inside in
    let b : Inside = record a { ports = c.set.new.self; plug_counts = c.raise.new.self } in
    plugged_sound a b refl c.args.port.now c.unwrap-settings.result _ (ap (λ n. fin.get n.net.ports c.args.port.now) c.self.view_is ∙ sym c.port_settings.ensures ∙ c.unwrap-settings.ensures) c.set.ensures.rows
    c.args.lan (subst (CanCommit (Plug c.args.port.now c.args.lan)) (sym c.self.view_is) c.requires) c.self.invariant (sym c.in_lan.ensures) c.set.ensures.numbered c.raise.ensures

pub returns : goal.returns
returns c =
    let a = c.self.inside in
    let b : Inside = record a { ports = c.set.new.self; plug_counts = c.raise.new.self } in
    subst (λ (old : Contents). Makes (Plug c.args.port.now c.args.lan) old (contents_of b)) c.self.view_is
    (plugged_made a b refl c.args.port.now c.unwrap-settings.result _ (ap (λ n. fin.get n.net.ports c.args.port.now) c.self.view_is ∙ sym c.port_settings.ensures ∙ c.unwrap-settings.ensures) c.set.ensures.rows c.args.lan (sym c.in_lan.ensures) c.set.ensures.numbers)
