use Rattle.std.proofs.Common.{◌∙◌, sym, ap}
use Rattle.std.specs.Option.{option_copied, option_map}
use Rattle.mst_view.specs.declared.in_view.BridgeInView.{BridgeInView}
use Rattle.mst_vlan.specs.Seen.{seen_bridge}
use Rattle.mst_vlan.proofs.ByNumber.{one_named, one_unnamed}
use Rattle.mst_vlan.proofs.named.bridge_names.Goals as goal
use Rattle.mst_vlan.proofs.named.bridge_names.Goals.{in-Some+in_ok-push, in_default}

pub loop-bridge-preserved : goal.loop-bridge-preserved
loop-bridge-preserved c =
    let l = c.loop-bridge in
    let f = seen_bridge c.args.view.now in
    elim c.match-bridge.branch [
      | in-Some+in_ok-push w ↦
          ap (λ names. names.items) w.names-is
          ∙ one_named f c.args.bridges.now l.bridge-index c.bridge-item.result c.loop-bridge-test.true c.bridge-item.is l.names.items w.push.new.self.items w.in-Some.bridge.now.name l.invariant
          (ap (option_map (λ (x : BridgeInView). x.name)) (sym c.bridge.ensures ∙ ap option_copied w.in-Some.is)) w.in_ok-push.ensures.items
      | in_default w ↦
          ap (λ names. names.items) w.names-is
          ∙ one_unnamed f c.args.bridges.now l.bridge-index c.bridge-item.result c.loop-bridge-test.true c.bridge-item.is l.names.items l.invariant
          (ap (option_map (λ (x : BridgeInView). x.name)) (sym c.bridge.ensures ∙ ap option_copied w.in_default.is))
    ]
