use Rattle.std.proofs.Common.{refl, sym, ◌∙◌, ap, ◌≡◌, ℕ, ◌+◌, List, length, slice_index_or, Bool, false, arith}
use Rattle.std.specs.List.{Contains}
use Rattle.mst_topology.specs.Places.{option_at}
use Rattle.mst_topology.specs.Slots.{HasRoom}
use Rattle.mst_topology.specs.Effects.{HearsAnew, IsMarked}
use Rattle.mst_topology.proofs.Places.{keys_room}
use Rattle.mst_topology.proofs.Effects.{Before, before_none, before_more, before_all, item_is, item_in, hears_none, hears_more, hears_fewer}
use Rattle.mst_topology.proofs.designations.Designations.hear_marked.Goals as goal

pub loop-entry-init : goal.loop-entry-init
loop-entry-init g c = record {
  heard = hears_none g.M.Metric.rules c.args.topology.now (option_at c.args.vectors.now) (option_at c.args.self.now.ports) (Before c.args.lans.now (IsMarked) 0) (before_none c.args.lans.now (IsMarked));
  keys_same = refl;
}

has : {T : Type 0} (xs : List (ℕ × T)) (e : ℕ × T) → Contains xs e → HasRoom xs e.0
has xs e c = (e.1, c)

pub hear_if_marked-requires : goal.hear_if_marked-requires
hear_if_marked-requires g c = rw c.entries-entry-items.ensures.value (keys_room c.args.self.now.ports c.loop-entry.self.ports (sym c.loop-entry.invariant.keys_same) (slice_index_or c.args.lans.now c.loop-entry.entry-index (0, false)).0 (c.requires (slice_index_or c.args.lans.now c.loop-entry.entry-index (0, false)).0 (has c.args.lans.now (slice_index_or c.args.lans.now c.loop-entry.entry-index (0, false)) (item_in c.args.lans.now c.loop-entry.entry-index (0, false) (rw c.entries-entry-items.ensures.value at c.loop-entry-test.true)))))

pub loop-entry-preserved : goal.loop-entry-preserved
loop-entry-preserved g c =
    let before = c.loop-entry.invariant in
    let heard : HearsAnew g.M.Metric.rules c.args.topology.now (option_at c.args.vectors.now) (option_at c.loop-entry.self.ports) (option_at c.hear_if_marked.new.ports) (IsMarked (slice_index_or c.args.lans.now c.loop-entry.entry-index (0, false))) = rw c.entries-entry-items.ensures.value at c.hear_if_marked.ensures.heard in
    record {
      heard = hears_more g.M.Metric.rules c.args.topology.now (option_at c.args.vectors.now) (option_at c.args.self.now.ports) (option_at c.loop-entry.self.ports) (option_at c.hear_if_marked.new.ports)
          (Before c.args.lans.now (IsMarked) c.loop-entry.entry-index) (IsMarked (slice_index_or c.args.lans.now c.loop-entry.entry-index (0, false))) (Before c.args.lans.now (IsMarked) (c.loop-entry.entry-index + 1)) before.heard heard
          (before_more c.args.lans.now (IsMarked) c.loop-entry.entry-index (slice_index_or c.args.lans.now c.loop-entry.entry-index (0, false)) (item_is c.args.lans.now c.loop-entry.entry-index (0, false) (rw c.entries-entry-items.ensures.value at c.loop-entry-test.true)) (rw c.entries-entry-items.ensures.value at c.loop-entry-test.true));
      keys_same = c.hear_if_marked.ensures.keys ∙ before.keys_same;
    }

pub returns-clause-heard : goal.returns-clause-heard
returns-clause-heard g c =
    let e : length c.entries-entry-items.result.now ≡ length c.args.lans.now = ap length c.entries-entry-items.ensures.value in
    let at : c.loop-entry.entry-index ≡ length c.args.lans.now = omega arith in
    hears_fewer g.M.Metric.rules c.args.topology.now (option_at c.args.vectors.now) (option_at c.args.self.now.ports) (option_at c.loop-entry.self.ports) (Before c.args.lans.now (IsMarked) (length c.args.lans.now)) (λ k. (e : ℕ × Bool) × Contains c.args.lans.now e × IsMarked e k)
    (rw at at c.loop-entry.invariant.heard) (λ k h. before_all c.args.lans.now (IsMarked) k h.0 h.1 h.2)
