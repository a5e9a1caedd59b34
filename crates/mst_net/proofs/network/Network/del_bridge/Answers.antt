use Rattle.std.proofs.Common.{false, cond, nat_eq, ap, sym, subst, refl, ◌∙◌}
use Rattle.std.specs.FinMap as fin
use Rattle.std.specs.HashSet as set
use Rattle.mst_lang.specs.declared.line.Edit.TheVariants.{DelBridge}
use Rattle.mst_tables.specs.Contents.{Contents, CanCommit, Makes}
use Rattle.mst_net.specs.NetworkKept.{contents_of}
use Rattle.mst_net.specs.declared.network.Network.TheInside.{Inside}
use Rattle.mst_tables.specs.Tables.{BridgeRow}
use Rattle.mst_net.proofs.EditLemmas.{present_bridge, bridge_unmade, bridge_left_sound}
use Rattle.mst_tables.proofs.SettingsLemmas.{network_in_trees}
use Rattle.mst_net.proofs.network.Network.del_bridge.Goals as goal

pub remove-requires : goal.remove-requires
remove-requires c =
    let a = c.self.inside in
    present_bridge a a c.args.bridge.now (subst (CanCommit (DelBridge c.args.bridge.now)) (sym c.self.view_is) c.requires)

pub forget_bridge-requires : goal.forget_bridge-requires
forget_bridge-requires c = network_in_trees (contents_of c.self.inside).net c.self.invariant.network

pub invariant_of-self : goal.invariant_of-self
invariant_of-self c =
    let a = c.self.inside in
    let b : Inside = record a { bridges = c.remove.new.self; macs = c.swap_remove.new.self; settings = c.forget_bridge.new.self } in
    bridge_left_sound a b c.args.bridge.now (subst (CanCommit (DelBridge c.args.bridge.now)) (sym c.self.view_is) c.requires) c.self.invariant refl c.remove.ensures.rows c.forget_bridge.ensures
    c.remove.ensures.numbered c.unwrap-settings.result (ap (λ n. fin.get n.net.bridges c.args.bridge.now) c.self.view_is ∙ sym c.bridge_settings.ensures ∙ c.unwrap-settings.ensures)
    (λ q. c.swap_remove.ensures.updates.0 q ∙ ap (λ (r : BridgeRow). cond (nat_eq r.mac q) false (set.contains nat_eq a.macs q)) c.settings.view_is)

pub returns : goal.returns
returns c =
    let a = c.self.inside in
    let b : Inside = record a { bridges = c.remove.new.self; macs = c.swap_remove.new.self; settings = c.forget_bridge.new.self } in
    subst (λ (old : Contents). CanCommit (DelBridge c.args.bridge.now) old → Makes (DelBridge c.args.bridge.now) old (contents_of b)) c.self.view_is
    (λ can. bridge_unmade a b c.args.bridge.now can c.self.invariant refl c.remove.ensures.rows c.forget_bridge.ensures c.remove.ensures.numbers) c.requires
