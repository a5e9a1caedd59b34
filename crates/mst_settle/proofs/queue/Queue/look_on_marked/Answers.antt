use Rattle.std.proofs.Common.{ap, ◌≡◌, ℕ, ◌+◌, length, slice_index_or, Bool, false, arith}
use Rattle.std.specs.List.{Contains}
use Rattle.mst_progress.specs.Progress.{vector_of}
use Rattle.mst_topology.specs.Effects.{LooksAnew, IsOnMarked}
use Rattle.mst_topology.proofs.Effects.{Before, before_none, before_more, before_all, item_is, looks_none, looks_more, looks_fewer}
use Rattle.mst_settle.proofs.queue.Queue.look_on_marked.Goals as goal

pub loop-entry-init : goal.loop-entry-init
loop-entry-init g c = record {
  looked = looks_none g.M.Metric.rules c.args.progress.now.topology (vector_of c.args.progress.now) c.args.self.now.keys (Before c.args.lans.now (IsOnMarked c.args.progress.now.topology) 0) (before_none c.args.lans.now (IsOnMarked c.args.progress.now.topology));
  seen = λ n s. absurd (c.clear-2.ensures n s);
  lans_seen = λ lan s n on. absurd (c.clear.ensures lan s);
}

pub look_on_if_marked-requires-clause-rooms : goal.look_on_if_marked-requires-clause-rooms
look_on_if_marked-requires-clause-rooms g c = λ p h. c.loop-entry.invariant.looked.rooms p.bridge (c.requires p h)

pub loop-entry-preserved : goal.loop-entry-preserved
loop-entry-preserved g c =
    let before = c.loop-entry.invariant in
    let looked : LooksAnew g.M.Metric.rules c.args.progress.now.topology (vector_of c.args.progress.now) c.loop-entry.self.keys c.look_on_if_marked.new.self.keys (IsOnMarked c.args.progress.now.topology (slice_index_or c.args.lans.now c.loop-entry.entry-index (0, false))) = rw c.entries-entry-items.ensures.value at c.look_on_if_marked.ensures.looked in
    record {
      looked = looks_more g.M.Metric.rules c.args.progress.now.topology (vector_of c.args.progress.now) c.args.self.now.keys c.loop-entry.self.keys c.look_on_if_marked.new.self.keys
          (Before c.args.lans.now (IsOnMarked c.args.progress.now.topology) c.loop-entry.entry-index) (IsOnMarked c.args.progress.now.topology (slice_index_or c.args.lans.now c.loop-entry.entry-index (0, false))) (Before c.args.lans.now (IsOnMarked c.args.progress.now.topology) (c.loop-entry.entry-index + 1)) before.looked looked
          (before_more c.args.lans.now (IsOnMarked c.args.progress.now.topology) c.loop-entry.entry-index (slice_index_or c.args.lans.now c.loop-entry.entry-index (0, false)) (item_is c.args.lans.now c.loop-entry.entry-index (0, false) (rw c.entries-entry-items.ensures.value at c.loop-entry-test.true)) (rw c.entries-entry-items.ensures.value at c.loop-entry-test.true));
      seen = c.look_on_if_marked.ensures.seen;
      lans_seen = c.look_on_if_marked.ensures.lans_seen;
    }

pub returns-clause-looked : goal.returns-clause-looked
returns-clause-looked g c =
    let e : length c.entries-entry-items.result.now ≡ length c.args.lans.now = ap length c.entries-entry-items.ensures.value in
    let at : c.loop-entry.entry-index ≡ length c.args.lans.now = omega arith in
    looks_fewer g.M.Metric.rules c.args.progress.now.topology (vector_of c.args.progress.now) c.args.self.now.keys c.loop-entry.self.keys (Before c.args.lans.now (IsOnMarked c.args.progress.now.topology) (length c.args.lans.now)) (λ k. (e : ℕ × Bool) × Contains c.args.lans.now e × IsOnMarked c.args.progress.now.topology e k)
    (rw at at c.loop-entry.invariant.looked) (λ k h. before_all c.args.lans.now (IsOnMarked c.args.progress.now.topology) k h.0 h.1 h.2)

pub returns-clause-seen : goal.returns-clause-seen
returns-clause-seen g c = c.loop-entry.invariant.seen
