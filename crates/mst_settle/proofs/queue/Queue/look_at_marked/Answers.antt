use Rattle.std.proofs.Common.{ap, ◌≡◌, ℕ, ◌+◌, List, length, slice_index_or, Bool, false, arith}
use Rattle.std.specs.List.{Contains}
use Rattle.mst_topology.specs.Slots.{HasRoom}
use Rattle.mst_progress.specs.Progress.{vector_of}
use Rattle.mst_topology.specs.Effects.{LooksAnew, IsMarked}
use Rattle.mst_topology.proofs.Effects.{Before, before_none, before_more, before_all, item_is, item_in, looks_none, looks_more, looks_fewer}
use Rattle.mst_settle.proofs.queue.Queue.look_at_marked.Goals as goal

pub loop-entry-init : goal.loop-entry-init
loop-entry-init g c = record {
  looked = looks_none g.M.Metric.rules c.args.progress.now.topology (vector_of c.args.progress.now) c.args.self.now.keys (Before c.args.bridges.now IsMarked 0) (before_none c.args.bridges.now IsMarked);
  seen = c.requires.seen;
}

has : {T : Type 0} (xs : List (ℕ × T)) (e : ℕ × T) → Contains xs e → HasRoom xs e.0
has xs e c = (e.1, c)

pub look_at_if_marked-requires-clause-room : goal.look_at_if_marked-requires-clause-room
look_at_if_marked-requires-clause-room g c = rw c.entries-entry-items.ensures.value (c.loop-entry.invariant.looked.rooms (slice_index_or c.args.bridges.now c.loop-entry.entry-index (0, false)).0 (c.requires.room (slice_index_or c.args.bridges.now c.loop-entry.entry-index (0, false)).0 (has c.args.bridges.now (slice_index_or c.args.bridges.now c.loop-entry.entry-index (0, false)) (item_in c.args.bridges.now c.loop-entry.entry-index (0, false) (rw c.entries-entry-items.ensures.value at c.loop-entry-test.true)))))

pub loop-entry-preserved : goal.loop-entry-preserved
loop-entry-preserved g c =
    let before = c.loop-entry.invariant in
    let looked : LooksAnew g.M.Metric.rules c.args.progress.now.topology (vector_of c.args.progress.now) c.loop-entry.self.keys c.look_at_if_marked.new.self.keys (IsMarked (slice_index_or c.args.bridges.now c.loop-entry.entry-index (0, false))) = rw c.entries-entry-items.ensures.value at c.look_at_if_marked.ensures.looked in
    record {
      looked = looks_more g.M.Metric.rules c.args.progress.now.topology (vector_of c.args.progress.now) c.args.self.now.keys c.loop-entry.self.keys c.look_at_if_marked.new.self.keys
          (Before c.args.bridges.now IsMarked c.loop-entry.entry-index) (IsMarked (slice_index_or c.args.bridges.now c.loop-entry.entry-index (0, false))) (Before c.args.bridges.now IsMarked (c.loop-entry.entry-index + 1)) before.looked looked
          (before_more c.args.bridges.now IsMarked c.loop-entry.entry-index (slice_index_or c.args.bridges.now c.loop-entry.entry-index (0, false)) (item_is c.args.bridges.now c.loop-entry.entry-index (0, false) (rw c.entries-entry-items.ensures.value at c.loop-entry-test.true)) (rw c.entries-entry-items.ensures.value at c.loop-entry-test.true));
      seen = c.look_at_if_marked.ensures.seen;
    }

pub returns : goal.returns
returns g c =
    let e : length c.entries-entry-items.result.now ≡ length c.args.bridges.now = ap length c.entries-entry-items.ensures.value in
    let at : c.loop-entry.entry-index ≡ length c.args.bridges.now = omega arith in
    looks_fewer g.M.Metric.rules c.args.progress.now.topology (vector_of c.args.progress.now) c.args.self.now.keys c.loop-entry.self.keys (Before c.args.bridges.now IsMarked (length c.args.bridges.now)) (λ k. (e : ℕ × Bool) × Contains c.args.bridges.now e × IsMarked e k)
    (rw at at c.loop-entry.invariant.looked) (λ k h. before_all c.args.bridges.now IsMarked k h.0 h.1 h.2)
