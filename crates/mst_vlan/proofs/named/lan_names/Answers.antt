use Rattle.std.proofs.Common.{◌∙◌, sym, ap}
use Rattle.std.specs.Option.{option_copied, option_map}
use Rattle.mst_view.specs.declared.in_view.LanInView.{LanInView}
use Rattle.mst_vlan.specs.Seen.{seen_lan}
use Rattle.mst_vlan.proofs.ByNumber.{one_named, one_unnamed}
use Rattle.mst_vlan.proofs.named.lan_names.Goals as goal
use Rattle.mst_vlan.proofs.named.lan_names.Goals.{in-Some+in_ok-push, in_default}

pub loop-lan-preserved : goal.loop-lan-preserved
loop-lan-preserved c =
    let l = c.loop-lan in
    let f = seen_lan c.args.view.now in
    elim c.match-lan.branch [
      | in-Some+in_ok-push w ↦
          ap (λ names. names.items) w.names-is
          ∙ one_named f c.args.lans.now l.lan-index c.lan-item.result c.loop-lan-test.true c.lan-item.is l.names.items w.push.new.self.items w.in-Some.lan.now.name l.invariant
          (ap (option_map (λ (x : LanInView). x.name)) (sym c.lan.ensures ∙ ap option_copied w.in-Some.is)) w.in_ok-push.ensures.items
      | in_default w ↦
          ap (λ names. names.items) w.names-is
          ∙ one_unnamed f c.args.lans.now l.lan-index c.lan-item.result c.loop-lan-test.true c.lan-item.is l.names.items l.invariant
          (ap (option_map (λ (x : LanInView). x.name)) (sym c.lan.ensures ∙ ap option_copied w.in_default.is))
    ]
