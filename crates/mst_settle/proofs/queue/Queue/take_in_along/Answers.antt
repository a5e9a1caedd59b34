use Rattle.std.proofs.Common.{rules, ap, ◌≡◌, false}
use Rattle.mst_topology.specs.Topology.{TreePort}
use Rattle.mst_topology.specs.Effects.{IsUnconcerned}
use Rattle.mst_progress.specs.Progress.{vector_of, vectors_with}
use Rattle.mst_settle.proofs.Taken.{takes_none, takes_fewer}
use Rattle.mst_settle.proofs.queue.Queue.take_in_along.Goals as goal

pub take_in_new-requires-clause-lan : goal.take_in_new-requires-clause-lan
take_in_new-requires-clause-lan g c = rw (← ap (λ (q : TreePort _ _ _ _). q.lan) c.port.view_is) at c.requires.lan

pub returns-then-concerns-clause-taken : goal.returns-then-concerns-clause-taken
returns-then-concerns-clause-taken g c =
    let at : c.port.inside.lan ≡ c.args.port.now.lan = ap (λ (q : TreePort _ _ _ _). q.lan) c.port.view_is in
    takes_fewer g.M.Metric.rules c.args.progress.now.topology (vectors_with (vector_of c.args.progress.now) c.args.written c.args.stored) (vector_of c.args.progress.now) c.args.written c.args.self.now.looked_on c.take_in_new.new.self.looked_on c.args.self.now.keys c.take_in_new.new.self.keys (λ p. p.lan ≡ c.port.inside.lan) (λ p. (p.lan ≡ c.args.port.now.lan) × (IsUnconcerned g.M.Metric.rules c.args.progress.now.topology (vector_of c.args.progress.now) c.args.stored c.args.port.now → ⊥))
    c.take_in_new.ensures.taken (λ p hp h. rw at h.0)

pub returns-else-concerns-clause-taken : goal.returns-else-concerns-clause-taken
returns-else-concerns-clause-taken g c =
    let quiet : c.concerns.result ≡ false = search rules in
    takes_none g.M.Metric.rules c.args.progress.now.topology (vectors_with (vector_of c.args.progress.now) c.args.written c.args.stored) (vector_of c.args.progress.now) c.args.written c.args.self.now.looked_on c.args.self.now.keys (λ p. (p.lan ≡ c.args.port.now.lan) × (IsUnconcerned g.M.Metric.rules c.args.progress.now.topology (vector_of c.args.progress.now) c.args.stored c.args.port.now → ⊥)) (λ n p ne hp on h. h.1 (c.concerns.ensures quiet))
