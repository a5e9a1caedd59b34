use Rattle.mst_rows.proofs.Loops.{rows_more}
use Rattle.mst_text.specs.TreeRuns.{port_of}
use Rattle.mst_text.proofs.tree.put_ports.Goals as goal

pub loop-port-preserved : goal.loop-port-preserved
loop-port-preserved g c first rows grew =
    rows_more (g.R.Rows.grew first c.put_port.new.out) (port_of c.args.plan.now c.args.tree) c.args.ports.now c.loop-port.port-index c.port-item.result rows c.loop-port-test.true c.port-item.is
    (c.in_ok-put_port.ensures first _ (c.loop-port.invariant first rows grew))
