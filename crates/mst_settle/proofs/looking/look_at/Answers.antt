use Rattle.mst_topology.specs.Slots.{IsSetAt}
use Rattle.mst_progress.specs.Progress.{vector_of}
use Rattle.mst_topology.proofs.Effects.{looks_one}
use Rattle.mst_settle.proofs.looking.look_at.Goals as goal

pub returns-clause-looked : goal.returns-clause-looked
returns-clause-looked g c =
    let set : IsSetAt c.args.keys.now c.args.bridge c.key.result c.set.new.self = rw c.bridge.view_is at c.set.ensures in
    looks_one g.M.Metric.rules c.args.progress.now.topology (vector_of c.args.progress.now) c.args.bridge c.key.result c.args.keys.now c.set.new.self c.key.ensures set
