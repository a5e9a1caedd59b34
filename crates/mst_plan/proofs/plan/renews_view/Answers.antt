use Rattle.std.proofs.Common.{sym, subst, ◌∙◌}
use Rattle.mst_lang.specs.declared.line.Edit.{Edit}
use Rattle.mst_net.specs.tables.Contents.{Commits}
use Rattle.mst_plan.proofs.plan.renews_view.Goals as goal

pub renew_lan-requires : goal.renew_lan-requires
renew_lan-requires c =
    c.lan_alone.ensures.made c.in-SetLan.lan c.in-SetLan.change c.requires.old c.args.network.now c.args.view.now
    (subst (λ (e : Edit). Commits e c.requires.old c.args.network.now) c.in-SetLan.is c.requires.made) c.requires.view

pub renew_bridge-requires : goal.renew_bridge-requires
renew_bridge-requires c =
    c.bridge_alone.ensures.made c.in-SetBridge.bridge c.in-SetBridge.change c.requires.old c.args.network.now c.args.view.now (sym c.leaves_links.ensures ∙ c.if-leaves_links.true)
    (subst (λ (e : Edit). Commits e c.requires.old c.args.network.now) c.in-SetBridge.is c.requires.made) c.requires.view

pub renew_port-requires : goal.renew_port-requires
renew_port-requires c =
    c.port_alone.ensures c.in-SetPort.port c.in-SetPort.change c.requires.old c.args.network.now c.args.view.now (sym c.leaves_key.ensures ∙ c.if-leaves_key.true) c.requires.network c.requires.numbered
    (subst (λ (e : Edit). Commits e c.requires.old c.args.network.now) c.in-SetPort.is c.requires.made) c.requires.view

pub renew_settings-requires : goal.renew_settings-requires
renew_settings-requires c =
    c.set_alone.ensures.settings c.in-SetByTree.change c.requires.old c.args.network.now c.args.view.now (sym c.leaves_tables.ensures ∙ c.if-leaves_tables.true)
    (subst (λ (e : Edit). Commits e c.requires.old c.args.network.now) c.in-SetByTree.is c.requires.made) c.requires.view

pub renew_tables-requires : goal.renew_tables-requires
renew_tables-requires c =
    c.set_alone.ensures.made c.in-SetByTree.change c.requires.old c.args.network.now c.args.view.now
    (subst (λ (e : Edit). Commits e c.requires.old c.args.network.now) c.in-SetByTree.is c.requires.made) c.requires.view

pub renew_links-requires : goal.renew_links-requires
renew_links-requires c =
    c.ports_alone.ensures.set c.in-SetPort.port c.in-SetPort.change c.requires.old c.args.network.now c.args.view.now
    (subst (λ (e : Edit). Commits e c.requires.old c.args.network.now) c.in-SetPort.is c.requires.made) c.requires.view

pub renew_links-requires-in-Plug : goal.renew_links-requires-in-Plug
renew_links-requires-in-Plug c =
    c.ports_alone.ensures.plugged _ _ c.requires.old c.args.network.now c.args.view.now
    (subst (λ (e : Edit). Commits e c.requires.old c.args.network.now) c.in-Plug.is c.requires.made) c.requires.view

pub renew_links-requires-in-Unplug : goal.renew_links-requires-in-Unplug
renew_links-requires-in-Unplug c =
    c.ports_alone.ensures.unplugged _ c.requires.old c.args.network.now c.args.view.now
    (subst (λ (e : Edit). Commits e c.requires.old c.args.network.now) c.in-Unplug.is c.requires.made) c.requires.view
