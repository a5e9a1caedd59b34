use Rattle.std.proofs.Common.{Some, cond, is_some, ap, sym, subst, refl, ◌∙◌}
use Rattle.std.specs.FinMap as fin
use Rattle.std.specs.Map.{lookup}
use Rattle.mst_lang.specs.declared.line.Edit.TheVariants.{SetLan}
use Rattle.mst_tables.specs.Contents.{Contents, CanCommit, Makes}
use Rattle.mst_net.specs.NetworkKept.{contents_of}
use Rattle.mst_net.specs.declared.network.Network.TheInside.{Inside}
use Rattle.mst_net.proofs.EditLemmas.{lan_to_set, lan_set_made, lan_set_sound}
use Rattle.mst_tables.proofs.Keyed.{contains_keyed}
use Rattle.mst_tables.proofs.Keys.{name_eq, names}
use Rattle.mst_net.proofs.network.Network.set_lan.Goals as goal

pub unwrap-settings-requires : goal.unwrap-settings-requires
unwrap-settings-requires c =
    let a = c.self.inside in
    let change = c.args.change.now in
    let lan = c.args.lan.now in
    ap is_some (c.lan_settings.ensures ∙ ap (λ n. fin.get n.net.lans lan) (sym c.self.view_is)) ∙ lan_to_set a a lan change (subst (CanCommit (SetLan lan change)) (sym c.self.view_is) c.requires)

pub set-requires : goal.set-requires
set-requires c =
    let a = c.self.inside in
    let change = c.args.change.now in
    let lan = c.args.lan.now in
    sym (contains_keyed names a.lans.rows lan) ∙ lan_to_set a a lan change (subst (CanCommit (SetLan lan change)) (sym c.self.view_is) c.requires)

pub invariant_of-self : goal.invariant_of-self
invariant_of-self c =
    let a = c.self.inside in
    let b : Inside = record a { lans = c.set.new.self } in
    let change = c.args.change.now in
    let lan = c.args.lan.now in
    lan_set_sound a b lan change (subst (CanCommit (SetLan lan change)) (sym c.self.view_is) c.requires) refl c.unwrap-settings.result
    (ap (λ n. fin.get n.net.lans lan) c.self.view_is ∙ sym c.lan_settings.ensures ∙ c.unwrap-settings.ensures)
    (λ q. c.set.ensures.rows q ∙ ap (λ r. cond (name_eq lan q) (Some r) (lookup (name_eq q) a.lans.rows)) c.with.ensures) c.self.invariant c.set.ensures.numbered

pub returns : goal.returns
returns c =
    let a = c.self.inside in
    let b : Inside = record a { lans = c.set.new.self } in
    let change = c.args.change.now in
    let lan = c.args.lan.now in
    subst (λ (old : Contents). CanCommit (SetLan lan change) old → Makes (SetLan lan change) old (contents_of b)) c.self.view_is
    (λ can. lan_set_made a b lan change can refl c.unwrap-settings.result (ap (λ n. fin.get n.net.lans lan) c.self.view_is ∙ sym c.lan_settings.ensures ∙ c.unwrap-settings.ensures)
    (λ q. c.set.ensures.rows q ∙ ap (λ r. cond (name_eq lan q) (Some r) (lookup (name_eq q) a.lans.rows)) c.with.ensures) c.set.ensures.numbers)
    c.requires
