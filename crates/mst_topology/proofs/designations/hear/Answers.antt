use Rattle.mst_topology.specs.Places.{option_at}
use Rattle.mst_topology.specs.Repair.{IsWritten}
use Rattle.mst_topology.specs.Settled.{IsDesignated}
use Rattle.mst_topology.proofs.Places.{write_written}
use Rattle.mst_topology.proofs.Effects.{lowest_designated, hears_one}
use Rattle.mst_topology.proofs.designations.hear.Goals as goal

pub returns-clause-heard : goal.returns-clause-heard
returns-clause-heard g c =
    let right : IsDesignated g.M.Metric.rules c.args.topology.now (option_at c.args.vectors.now) c.args.lan c.port_of-port.result = rw c.port_of-port.ensures (lowest_designated g.M.Metric.rules c.args.topology.now (option_at c.args.vectors.now) c.args.lan c.least_heard.result c.least_heard.ensures) in
    let written : IsWritten (option_at c.args.ports.now) c.args.lan c.port_of-port.result (option_at c.write_at.new.self) = write_written c.args.ports.now c.write_at.new.self c.args.lan c.port_of-port.result (rw c.lan.view_is at c.write_at.ensures.put) in
    hears_one g.M.Metric.rules c.args.topology.now (option_at c.args.vectors.now) c.args.lan c.port_of-port.result (option_at c.args.ports.now) (option_at c.write_at.new.self) right written
