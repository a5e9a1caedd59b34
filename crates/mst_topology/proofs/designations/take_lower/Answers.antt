use Rattle.std.proofs.Common.{rules, ◌≡◌, ◌∙◌, ap}
use Rattle.mst_topology.specs.Places.{option_at}
use Rattle.mst_topology.specs.Topology.{TreePort}
use Rattle.mst_topology.specs.Settling.{port_of}
use Rattle.mst_topology.specs.Repair.{IsWritten}
use Rattle.mst_topology.proofs.Places.{write_written}
use Rattle.mst_topology.proofs.designations.take_lower.Goals as goal

pub returns-clause-lower : goal.returns-clause-lower
returns-clause-lower g c =
    let lan = ap (λ q. q.lan) c.port-inside.view_is ∙ ap (λ (q : TreePort _ _ _ _). q.lan) c.port.view_is in
    let standing : c.flatten-standing.result ≡ option_at c.args.ports.now c.args.port.now.lan = rw (← lan) (search rules) in
    let written : IsWritten (option_at c.args.ports.now) c.args.port.now.lan (port_of c.lower_heard.result) (option_at c.write_at.new.self) =
    write_written c.args.ports.now c.write_at.new.self c.args.port.now.lan (port_of c.lower_heard.result) (rw (c.port_of-lower.ensures, lan) at c.write_at.ensures.put) in
    (c.lower_heard.result, rw standing at c.lower_heard.ensures, written)
