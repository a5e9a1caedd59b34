use Rattle.std.proofs.Common.{◌≡◌, sym, ◌∙◌}
use Rattle.mst_progress.specs.Progress.{vector_of}
use Rattle.mst_topology.specs.Effects.{IsMarked}
use Rattle.mst_topology.proofs.Effects.{looks_none, looks_fewer}
use Rattle.mst_settle.proofs.queue.Queue.look_at_if_marked.Goals as goal

pub returns-then-entry-clause-looked : goal.returns-then-entry-clause-looked
returns-then-entry-clause-looked g c = looks_fewer g.M.Metric.rules c.args.progress.now.topology (vector_of c.args.progress.now) c.args.self.now.keys c.look_once.new.keys (λ k. k ≡ c.args.entry.0) (IsMarked c.args.entry) c.look_once.ensures.looked (λ k h. h.1)

pub returns-else-entry-clause-looked : goal.returns-else-entry-clause-looked
returns-else-entry-clause-looked g c = looks_none g.M.Metric.rules c.args.progress.now.topology (vector_of c.args.progress.now) c.args.self.now.keys (IsMarked c.args.entry) (λ k h. let mark = sym c.if-entry.false ∙ h.0 in cc)
