use Rattle.mst_topology.proofs.Places.{write_written}
use Rattle.mst_settle.proofs.settling.settle_one.Goals as goal

pub returns-clause-vectors : goal.returns-clause-vectors
returns-clause-vectors g c = write_written c.args.vectors.now c.write_at.new.self c.args.number c.args.vector (rw c.number.view_is at c.write_at.ensures.put)
