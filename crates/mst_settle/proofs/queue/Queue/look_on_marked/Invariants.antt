use Rattle.mst_progress.specs.Progress.{vector_of}
use Rattle.mst_topology.specs.Effects.{LooksAnew, KeysAreRight, LansKeysAreRight, IsOnMarked}
use Rattle.mst_topology.proofs.Effects.{Before}
use Rattle.mst_settle.proofs.queue.Queue.look_on_marked.Given as goal

abbrev pub invariant-loop-entry : goal.invariant-loop-entry
invariant-loop-entry g l = record {
  looked : LooksAnew g.M.Metric.rules l.progress.topology (vector_of l.progress) l.fn.self.keys l.self.keys (Before l.lans (IsOnMarked l.progress.topology) l.entry-index);
  seen : KeysAreRight g.M.Metric.rules l.progress.topology (vector_of l.progress) l.self.looked l.self.keys;
  lans_seen : LansKeysAreRight g.M.Metric.rules l.progress.topology (vector_of l.progress) l.self.looked_on l.self.keys;
}
