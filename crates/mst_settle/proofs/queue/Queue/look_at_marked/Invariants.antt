use Rattle.mst_progress.specs.Progress.{vector_of}
use Rattle.mst_topology.specs.Effects.{LooksAnew, KeysAreRight, IsMarked}
use Rattle.mst_topology.proofs.Effects.{Before}
use Rattle.mst_settle.proofs.queue.Queue.look_at_marked.Given as goal

abbrev pub invariant-loop-entry : goal.invariant-loop-entry
invariant-loop-entry g l = record {
  looked : LooksAnew g.M.Metric.rules l.progress.topology (vector_of l.progress) l.fn.self.keys l.self.keys (Before l.bridges IsMarked l.entry-index);
  seen : KeysAreRight g.M.Metric.rules l.progress.topology (vector_of l.progress) l.self.looked l.self.keys;
}
