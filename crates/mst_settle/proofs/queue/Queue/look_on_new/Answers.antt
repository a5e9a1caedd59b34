use Rattle.std.proofs.Common.{rules, ◌≡◌, ◌⊎◌, ℕ, true}
use Rattle.mst_topology.specs.Seen.{IsSeen}
use Rattle.mst_progress.specs.Progress.{vector_of}
use Rattle.mst_topology.specs.Effects.{IsBridgeOn}
use Rattle.mst_settle.proofs.OnlyOnce.{lans_more, looks_seen}
use Rattle.mst_settle.proofs.queue.Queue.look_on_new.Goals as goal

pub returns-then-not-has-clause-lans_seen : goal.returns-then-not-has-clause-lans_seen
returns-then-not-has-clause-lans_seen g c =
    let put : (k : ℕ) → IsSeen c.put.new.self k → (k ≡ c.args.lan) ⊎ IsSeen c.args.self.now.looked_on k = rw c.lan-then-not-has.view_is at c.put.ensures in
    lans_more g.M.Metric.rules c.args.progress.now.topology (vector_of c.args.progress.now) c.args.self.now.looked_on c.put.new.self c.args.self.now.keys c.look_on_once.new.keys c.args.lan c.requires.lans_seen c.look_on_once.ensures.looked put

pub returns-else-not-has-clause-looked : goal.returns-else-not-has-clause-looked
returns-else-not-has-clause-looked g c =
    let yes : c.has.result ≡ true = search rules in
    let seen : IsSeen c.args.self.now.looked_on c.args.lan = rw c.lan.view_is at (c.has.ensures yes) in
    looks_seen g.M.Metric.rules c.args.progress.now.topology (vector_of c.args.progress.now) c.args.self.now.keys (IsBridgeOn c.args.progress.now.topology c.args.lan) (c.requires.lans_seen c.args.lan seen)
