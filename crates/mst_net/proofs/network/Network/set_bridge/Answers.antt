use Rattle.std.proofs.Common.{Some, cond, is_some, ap, sym, subst, refl, ◌∙◌}
use Rattle.std.specs.FinMap as fin
use Rattle.std.specs.Map.{lookup}
use Rattle.mst_lang.specs.declared.line.Edit.TheVariants.{SetBridge}
use Rattle.mst_tables.specs.Contents.{Contents, CanCommit, Makes}
use Rattle.mst_net.specs.NetworkKept.{contents_of}
use Rattle.mst_net.specs.declared.network.Network.TheInside.{Inside}
use Rattle.mst_net.proofs.EditLemmas.{bridge_to_set, bridge_set_made, bridge_set_sound}
use Rattle.mst_tables.proofs.Keyed.{contains_keyed}
use Rattle.mst_tables.proofs.Keys.{name_eq, names}
use Rattle.mst_net.proofs.network.Network.set_bridge.Goals as goal

pub unwrap-settings-requires : goal.unwrap-settings-requires
unwrap-settings-requires c =
    let a = c.self.inside in
    let change = c.args.change.now in
    let bridge = c.args.bridge.now in
    ap is_some (c.bridge_settings.ensures ∙ ap (λ n. fin.get n.net.bridges bridge) (sym c.self.view_is)) ∙ bridge_to_set a a bridge change (subst (CanCommit (SetBridge bridge change)) (sym c.self.view_is) c.requires)

pub set-requires : goal.set-requires
set-requires c =
    let a = c.self.inside in
    let change = c.args.change.now in
    let bridge = c.args.bridge.now in
    sym (contains_keyed names a.bridges.rows bridge) ∙ bridge_to_set a a bridge change (subst (CanCommit (SetBridge bridge change)) (sym c.self.view_is) c.requires)

pub invariant_of-self : goal.invariant_of-self
invariant_of-self c =
    let a = c.self.inside in
    let b : Inside = record a { bridges = c.set.new.self } in
    let change = c.args.change.now in
    let bridge = c.args.bridge.now in
    bridge_set_sound a b bridge change (subst (CanCommit (SetBridge bridge change)) (sym c.self.view_is) c.requires) refl c.unwrap-settings.result
    (ap (λ n. fin.get n.net.bridges bridge) c.self.view_is ∙ sym c.bridge_settings.ensures ∙ c.unwrap-settings.ensures)
    (λ q. c.set.ensures.rows q ∙ ap (λ r. cond (name_eq bridge q) (Some r) (lookup (name_eq q) a.bridges.rows)) c.with.ensures) c.self.invariant c.set.ensures.numbered

pub returns : goal.returns
returns c =
    let a = c.self.inside in
    let b : Inside = record a { bridges = c.set.new.self } in
    let change = c.args.change.now in
    let bridge = c.args.bridge.now in
    subst (λ (old : Contents). CanCommit (SetBridge bridge change) old → Makes (SetBridge bridge change) old (contents_of b)) c.self.view_is
    (λ can. bridge_set_made a b bridge change can refl c.unwrap-settings.result (ap (λ n. fin.get n.net.bridges bridge) c.self.view_is ∙ sym c.bridge_settings.ensures ∙ c.unwrap-settings.ensures)
    (λ q. c.set.ensures.rows q ∙ ap (λ r. cond (name_eq bridge q) (Some r) (lookup (name_eq q) a.bridges.rows)) c.with.ensures) c.set.ensures.numbers)
    c.requires
