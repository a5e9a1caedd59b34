use Rattle.mst_view.specs.declared.in_view.MemberPort.{MemberPort}
use Rattle.mst_text.specs.KeptByLan.{kept_at}
use Rattle.mst_text.specs.LagView.{port_of}
use Rattle.mst_text.proofs.LagsByLan.{one_more}
use Rattle.mst_text.proofs.by_lan.ports_of.Goals as goal

pub loop-port-preserved : goal.loop-port-preserved
loop-port-preserved c =
    let l = c.loop-port in
    one_more (λ (m : MemberPort). m.lan) port_of c.args.ports.now l.port-index c.port-item.result c.loop-port-test.true c.port-item.is (kept_at l.kept) (kept_at c.add.new.kept) l.invariant c.in_ok-add.ensures
