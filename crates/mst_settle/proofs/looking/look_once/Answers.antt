use Rattle.std.proofs.Common.{rules, subst, sym, ◌≡◌, ◌⊎◌, ℕ, true}
use Rattle.mst_topology.specs.Seen.{IsSeen}
use Rattle.mst_progress.specs.Progress.{vector_of}
use Rattle.mst_topology.specs.Effects.{HasRightKey}
use Rattle.mst_settle.proofs.OnlyOnce.{keys_more, looks_seen}
use Rattle.mst_settle.proofs.looking.look_once.Goals as goal

pub returns-then-not-has-clause-seen : goal.returns-then-not-has-clause-seen
returns-then-not-has-clause-seen g c =
    let put : (k : ℕ) → IsSeen c.put.new.self k → (k ≡ c.args.bridge) ⊎ IsSeen c.args.looked.now k = rw c.bridge-then-not-has.view_is at c.put.ensures in
    keys_more g.M.Metric.rules c.args.progress.now.topology (vector_of c.args.progress.now) c.args.looked.now c.put.new.self c.args.keys.now c.look_at.new.keys c.args.bridge c.requires.seen c.look_at.ensures.looked put

pub returns-else-not-has-clause-looked : goal.returns-else-not-has-clause-looked
returns-else-not-has-clause-looked g c =
    let yes : c.has.result ≡ true = search rules in
    let seen : IsSeen c.args.looked.now c.args.bridge = rw c.bridge.view_is at (c.has.ensures yes) in
    looks_seen g.M.Metric.rules c.args.progress.now.topology (vector_of c.args.progress.now) c.args.keys.now (λ k. k ≡ c.args.bridge)
    (λ k e. subst (λ z. HasRightKey g.M.Metric.rules c.args.progress.now.topology (vector_of c.args.progress.now) c.args.keys.now z) (sym e) (c.requires.seen c.args.bridge seen))
