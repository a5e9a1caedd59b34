use Rattle.std.proofs.Common.{Some, cond, is_some, ap, sym, subst, refl, ◌∙◌}
use Rattle.std.specs.FinMap as fin
use Rattle.std.specs.Map.{lookup}
use Rattle.mst_tables.specs.Tables.{port_eq}
use Rattle.mst_lang.specs.declared.line.Edit.TheVariants.{SetPort}
use Rattle.mst_tables.specs.Contents.{Contents, CanCommit, Makes}
use Rattle.mst_net.specs.NetworkKept.{contents_of}
use Rattle.mst_net.specs.declared.network.Network.TheInside.{Inside}
use Rattle.mst_net.proofs.EditLemmas.{port_to_set, port_set_made, port_set_sound}
use Rattle.mst_tables.proofs.Keyed.{contains_keyed}
use Rattle.mst_tables.proofs.Keys.{ports}
use Rattle.mst_net.proofs.network.Network.set_port.Goals as goal

pub unwrap-settings-requires : goal.unwrap-settings-requires
unwrap-settings-requires c =
    let a = c.self.inside in
    let change = c.args.change.now in
    let port = c.args.port.now in
    ap is_some (c.port_settings.ensures ∙ ap (λ n. fin.get n.net.ports port) (sym c.self.view_is)) ∙ port_to_set a a port change (subst (CanCommit (SetPort port change)) (sym c.self.view_is) c.requires)

pub set-requires : goal.set-requires
set-requires c =
    let a = c.self.inside in
    let change = c.args.change.now in
    let port = c.args.port.now in
    sym (contains_keyed ports a.ports.rows port) ∙ port_to_set a a port change (subst (CanCommit (SetPort port change)) (sym c.self.view_is) c.requires)

pub invariant_of-self : goal.invariant_of-self
invariant_of-self c =
    let a = c.self.inside in
    let b : Inside = record a { ports = c.set.new.self } in
    let change = c.args.change.now in
    let port = c.args.port.now in
    port_set_sound a b port change (subst (CanCommit (SetPort port change)) (sym c.self.view_is) c.requires) refl c.unwrap-settings.result
    (ap (λ n. fin.get n.net.ports port) c.self.view_is ∙ sym c.port_settings.ensures ∙ c.unwrap-settings.ensures)
    (λ q. c.set.ensures.rows q ∙ ap (λ r. cond (port_eq port q) (Some r) (lookup (port_eq q) a.ports.rows)) c.with.ensures) c.self.invariant c.set.ensures.numbered

pub returns : goal.returns
returns c =
    let a = c.self.inside in
    let b : Inside = record a { ports = c.set.new.self } in
    let change = c.args.change.now in
    let port = c.args.port.now in
    subst (λ (old : Contents). CanCommit (SetPort port change) old → Makes (SetPort port change) old (contents_of b)) c.self.view_is
    (λ can. port_set_made a b port change can refl c.unwrap-settings.result (ap (λ n. fin.get n.net.ports port) c.self.view_is ∙ sym c.port_settings.ensures ∙ c.unwrap-settings.ensures)
    (λ q. c.set.ensures.rows q ∙ ap (λ r. cond (port_eq port q) (Some r) (lookup (port_eq q) a.ports.rows)) c.with.ensures) c.set.ensures.numbers)
    c.requires
