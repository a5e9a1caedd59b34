use Rattle.std.proofs.Common.{sym, ◌∙◌}
use Rattle.mst_progress.specs.Progress.{vector_of}
use Rattle.mst_topology.specs.Effects.{IsBridgeOn, IsOnMarked}
use Rattle.mst_topology.proofs.Effects.{looks_none, looks_fewer}
use Rattle.mst_settle.proofs.queue.Queue.look_on_if_marked.Goals as goal

pub returns-then-entry-clause-looked : goal.returns-then-entry-clause-looked
returns-then-entry-clause-looked g c = looks_fewer g.M.Metric.rules c.args.progress.now.topology (vector_of c.args.progress.now) c.args.self.now.keys c.look_on_new.new.self.keys (IsBridgeOn c.args.progress.now.topology c.args.entry.0) (IsOnMarked c.args.progress.now.topology c.args.entry) c.look_on_new.ensures.looked (λ k h. h.1)

pub returns-else-entry-clause-looked : goal.returns-else-entry-clause-looked
returns-else-entry-clause-looked g c = looks_none g.M.Metric.rules c.args.progress.now.topology (vector_of c.args.progress.now) c.args.self.now.keys (IsOnMarked c.args.progress.now.topology c.args.entry) (λ k h. let mark = sym c.if-entry.false ∙ h.0 in cc)
