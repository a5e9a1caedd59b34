use Rattle.std.proofs.Common.{rules, ◌≡◌, ◌⊎◌, ℕ, true}
use Rattle.mst_topology.specs.Seen.{IsSeen}
use Rattle.mst_progress.specs.Progress.{vector_of, vectors_with}
use Rattle.mst_settle.proofs.Taken.{takes_lan, takes_seen}
use Rattle.mst_settle.proofs.queue.Queue.take_in_new.Goals as goal

pub returns-then-not-has-clause-taken : goal.returns-then-not-has-clause-taken
returns-then-not-has-clause-taken g c =
    let put : (k : ℕ) → IsSeen c.put.new.self k → (k ≡ c.args.lan) ⊎ IsSeen c.take_in_on.new.self.looked_on k = rw c.lan-then-not-has.view_is at c.put.ensures in
    takes_lan g.M.Metric.rules c.args.progress.now.topology (vectors_with (vector_of c.args.progress.now) c.args.written c.args.stored) (vector_of c.args.progress.now) c.args.written c.args.self.now.looked_on c.take_in_on.new.self.looked_on c.put.new.self c.args.self.now.keys c.take_in_on.new.self.keys c.args.lan c.take_in_on.ensures.taken put

pub returns-else-not-has-clause-taken : goal.returns-else-not-has-clause-taken
returns-else-not-has-clause-taken g c =
    let yes : c.has.result ≡ true = search rules in
    let seen : IsSeen c.args.self.now.looked_on c.args.lan = rw c.lan.view_is at (c.has.ensures yes) in
    takes_seen g.M.Metric.rules c.args.progress.now.topology (vectors_with (vector_of c.args.progress.now) c.args.written c.args.stored) (vector_of c.args.progress.now) c.args.written c.args.self.now.looked_on c.args.self.now.keys c.args.lan seen
